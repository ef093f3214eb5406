-- One level of a pattern: the step that it came by, and the shorter pattern.
-- Assumes nothing.
use Rattle.std.specs.Prelude.{ℕ, ◌≡◌}
use Rattle.listing.specs.Pattern.{entry}
use Rattle.listing.specs.Steps.{Letter, by_a, by_b, shorter, back, letter}
use Rattle.pattern_inverse.specs.Judged.{pattern_of}
use Rattle.pattern_inverse.specs.declared.types.Taken.{Taken}
use Rattle.pattern_levels.specs.declared.types.Came.{Came}
use Rattle.pattern_levels.specs.declared.types.Came.TheVariants.{ByA, ByB}

-- the step that a pattern came by: the letter, and the entry at its last jack
abbrev pub came_of : Letter → ℕ → Came
came_of by_a i = ByA i
came_of by_b i = ByB i

-- the letter of a step
abbrev pub letter_of : Came → Letter
letter_of (ByA i) = by_a
letter_of (ByB i) = by_b

-- the entry at the last jack, which is the number of the block
abbrev pub end_of : Came → ℕ
end_of (ByA i) = i
end_of (ByB i) = i

-- one level taken off a pattern: the step that it came by, and the shorter pattern is left
pub record Peeled (before : Taken) (c : Came) (after : Taken) : Type 0 where
  pub came : c ≡ came_of (letter before.ports (pattern_of before)) (entry (pattern_of before) before.ports)
  pub left : after.ports ≡ shorter (letter_of c) before.ports
  pub shown : pattern_of after ≡ back (letter_of c) before.ports (pattern_of before)
