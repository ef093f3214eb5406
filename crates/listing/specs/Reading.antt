-- The list read forward or backward, level by level: what is passed over before a pattern, and which way the shorter list is then read.
-- Assumes nothing.
use Rattle.std.specs.Prelude.{ℕ, suc, ◌+◌, ◌*◌, ◌-◌, Bool, not, cond}
use Rattle.listing.specs.Numbers.{before, odd}
use Rattle.listing.specs.Count.{count}
use Rattle.listing.specs.Steps.{Letter, by_a, by_b, shorter}
use Rattle.listing.specs.Rank.{per_block}

-- the other letter
abbrev pub other : Letter → Letter
other by_a = by_b
other by_b = by_a

-- whether the patterns by w are the first part of block i: those by A are in an odd block read forward and in an even one read backward
-- (the paper, 'The list'). The first part is the shorter list read forward, the second is the shorter list read backward
abbrev pub comes_first : Bool → Letter → ℕ → Bool
comes_first forward by_a i = cond forward (odd i) (not (odd i))
comes_first forward by_b i = cond forward (not (odd i)) (odd i)

-- how many patterns of the list for n, read forward or backward, come before that part: the blocks before block i, and the first part before the second
unfoldable pub passed : Bool → Letter → ℕ → ℕ → ℕ
passed forward w n i = cond forward (before i) (n - suc i) * per_block n + cond (comes_first forward w i) 0 (count (shorter (other w) n))
