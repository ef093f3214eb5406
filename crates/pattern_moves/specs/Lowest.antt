-- Whether a level is open, by the step that its pattern came by.
-- Assumes nothing.
use Rattle.std.specs.Prelude.{ℕ, Bool}
use Rattle.listing.specs.Reading.{comes_first}
use Rattle.listing_course.specs.Onward.{is_open}
use Rattle.pattern_levels.specs.declared.types.Came.{Came}
use Rattle.pattern_levels.specs.Levels.{letter_of, end_of}

-- the level of n ports of a pattern that came by c, its list read forward or backward
abbrev pub open_by : Bool → ℕ → Came → Bool
open_by forward n c = is_open (comes_first forward (letter_of c) (end_of c)) forward n (end_of c)
