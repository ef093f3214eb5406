-- Rank from pattern and pattern from rank, by recursion on the number of ports and without the list.
-- Assumes nothing.
use Rattle.std.specs.Prelude.{ℕ, zero, suc, ◌+◌, ◌*◌, ◌-◌, ◌/◌, ◌%◌, Bool, true, false, cond, List, [], eqb, ltb}
use Rattle.listing.specs.Numbers.{before, odd}
use Rattle.listing.specs.Pattern.{entry}
use Rattle.listing.specs.Count.{count}
use Rattle.listing.specs.Steps.{Letter, by_a, by_b, step_a, step_b, un_a, un_b}

-- place s of m, counted from the other end: the place in the reversed list
abbrev pub from_end : ℕ → ℕ → ℕ
from_end m s = m - suc s

-- the patterns in each block of the list for n: as many as in the two shorter lists together
abbrev pub per_block : ℕ → ℕ
per_block n = count (before n) + count (before (before n))

-- the place in an odd block of the pattern made from the shorter one of rank s: first those by A, in the list's order; then those by B, in the reversed
abbrev pub in_odd : Letter → ℕ → ℕ → ℕ
in_odd by_a n s = s
in_odd by_b n s = count (before n) + from_end (count (before (before n))) s

-- an even block is an odd one read backwards
abbrev pub turned : Bool → ℕ → ℕ → ℕ
turned true m u = u
turned false m u = from_end m u

-- the rank of the pattern made by the letter w, with i, from the shorter one of rank s: i - 1 whole blocks, and the place in block i
unfoldable pub place : Letter → ℕ → ℕ → ℕ → ℕ
place w n i s = before i * per_block n + turned (odd i) (per_block n) (in_odd w n s)

-- the rank of p: with i the entry at jack n, by B if jack i holds n, else by A
unfoldable pub rank : ℕ → List ℕ → ℕ
rank zero p = 0
rank (suc zero) p = 0
rank (suc (suc m)) p =
    let n = suc (suc m) in
    let i = entry p n in
    cond (eqb (entry p i) n) (place by_b n i (rank m (un_b n p))) (place by_a n i (rank (suc m) (un_a n p)))

-- the pattern of rank r: r / perBlock n whole blocks come before its block i; u is its place in the block, read as an odd one
unfoldable pub unrank : ℕ → ℕ → List ℕ
unrank zero r = []
unrank (suc zero) r = []
unrank (suc (suc m)) r =
    let n = suc (suc m) in
    let i = suc (r / per_block n) in
    let u = turned (odd i) (per_block n) (r % per_block n) in
    cond (ltb u (count (suc m))) (step_a n i (unrank (suc m) u)) (step_b n i (unrank m (from_end (count m) (u - count (suc m)))))
