-- The two parts of a block of the list for n (relation (2) of document 000; the paper, 'The list').
-- Assumes nothing.
use Rattle.std.specs.Prelude.{ℕ, ◌-◌, ◌≡◌}
use Rattle.listing.specs.Count.{count}
use Rattle.listing.specs.Steps.{Letter, by_a, by_b}
use Rattle.pattern_steps.specs.declared.counts.Parts.{Parts}

-- the part of a letter
abbrev pub part_of : Letter → Parts → ℕ
part_of by_a parts = parts.by_a
part_of by_b parts = parts.by_b

-- by A as many patterns as there are of n - 1 ports, and by B as many as there are of n - 2
abbrev pub PartsOf : ℕ → Parts → Type 0
PartsOf n parts = (parts.by_a ≡ count (n - 1)) × (parts.by_b ≡ count (n - 2))
