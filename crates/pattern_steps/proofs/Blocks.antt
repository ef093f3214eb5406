-- The parts of a block as the list has them.
-- Assumes nothing.
use mathlib.Core.Path.{◌≡◌, ap, ◌∙◌}
use Prim.Native.Nat.{ℕ, ◌+◌, ◌-◌, ◌≤◌}
use native.Mathlib.Omega.{arith}
use Rattle.listing.specs.Count.{count}
use Rattle.listing.specs.Steps.{Letter, by_a, by_b, shorter}
use Rattle.listing.specs.Rank.{per_block}
use Rattle.listing.specs.Limits.{most_ports, largest64}
use Rattle.listing.proofs.Limits.{count_most}
use Rattle.listing.proofs.Numbers.{less_one, less_two}
use Rattle.pattern_steps.specs.Blocks.{part_of, PartsOf}
use Rattle.pattern_steps.specs.declared.counts.Parts.{Parts}

-- the part of a letter is as long as the list of the shorter patterns
pub part_count : (w : Letter) (n : ℕ) {parts : Parts} → PartsOf n parts → part_of w parts ≡ count (shorter w n)
part_count by_a n h = h.0 ∙ ap count (less_one n)
part_count by_b n h = h.1 ∙ ap count (less_two n)

-- together they are the block
pub parts-size : (n : ℕ) {parts : Parts} → PartsOf n parts → parts.by_a + parts.by_b ≡ per_block n
parts-size n h = omega (arith, part_count by_a n h, part_count by_b n h)

-- and fit 64 bits
pub parts-fit : (n : ℕ) {parts : Parts} → n ≤ most_ports → PartsOf n parts → parts.by_a + parts.by_b ≤ largest64
parts-fit n l h = omega (arith, count_most (n - 1) (omega arith), count_most (n - 2) (omega arith))
