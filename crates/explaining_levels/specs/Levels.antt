-- A level as the code has it: the step that the pattern came by, and what that tells of its place.
-- Assumes nothing.
use Rattle.std.specs.Prelude.{ℕ}
use Rattle.listing_levels.specs.Levels as listed
use Rattle.pattern_levels.specs.Levels.{letter_of, end_of}
use Rattle.pattern_levels.specs.declared.types.Came.{Came}
use Rattle.pattern_ranks.specs.declared.types.Level.{Level}

-- the level of n ports that they are, as the laws have it
abbrev pub level_is : ℕ → Came → Level → listed.Level
level_is n c l = record { ports = n; last = end_of c; by = letter_of c; forward = l.forward; over = l.passed }
