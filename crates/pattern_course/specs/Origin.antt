-- One level of a rank: the step that makes its pattern, and the rank of the shorter one.
-- Assumes nothing.
use Rattle.std.specs.Prelude.{ℕ, suc, ◌-◌, ◌/◌, ◌%◌, cond, ltb}
use Rattle.listing.specs.Numbers.{before, odd}
use Rattle.listing.specs.Count.{count}
use Rattle.listing.specs.Rank.{from_end, per_block, turned}
use Rattle.pattern_course.specs.declared.types.Origin.{Origin}
use Rattle.pattern_course.specs.declared.types.Origin.TheVariants.{ByA, ByB}

-- place u of block i, read as an odd one: first the patterns by A in the list's order, then those by B in the reversed
abbrev pub origin_in : ℕ → ℕ → ℕ → Origin
origin_in n i u = cond (ltb u (count (before n))) (ByA i u) (ByB i (from_end (count (before (before n))) (u - count (before n))))

-- the step that makes the pattern of rank r, and the rank of the shorter one, as `unrank` has them (the paper, 'The list')
unfoldable pub origin_of : ℕ → ℕ → Origin
origin_of n r =
    let i = suc (r / per_block n) in
    origin_in n i (turned (odd i) (per_block n) (r % per_block n))
