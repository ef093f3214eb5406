-- One level of a pattern's place: what is passed over, and the place of the shorter pattern; and what the place of a pattern asks.
-- Assumes nothing.
use Rattle.std.specs.Prelude.{ℕ, ◌+◌, ◌≤◌, ◌<◌, ◌≡◌, Bool}
use Rattle.listing.specs.Count.{count}
use Rattle.listing.specs.Steps.{shorter}
use Rattle.listing.specs.Rank.{turned, rank}
use Rattle.listing.specs.Reading.{comes_first, passed}
use Rattle.listing.specs.Limits.{largest64}
use Rattle.pattern_inverse.specs.Judged.{pattern_of}
use Rattle.pattern_inverse.specs.declared.types.Taken.{Taken}
use Rattle.pattern_levels.specs.Levels.{letter_of, end_of}
use Rattle.pattern_levels.specs.declared.types.Came.{Came}
use Rattle.pattern_ranks.specs.declared.types.Level.{Level}

-- what a step that a pattern of n ports came by tells of its place, in the list read forward or backward: how many are passed over, how the shorter list is
-- read there, and how many ports the shorter pattern has
pub record PlacedBy (forward : Bool) (n : ℕ) (c : Came) (l : Level) : Type 0 where
  pub over : l.passed ≡ passed forward (letter_of c) n (end_of c)
  pub read : l.forward ≡ comes_first forward (letter_of c) (end_of c)
  pub left : l.ports ≡ shorter (letter_of c) n

-- the place of a pattern in the list read forward or backward
abbrev pub place_of : Bool → Taken → ℕ
place_of forward t = turned forward (count t.ports) (rank t.ports (pattern_of t))

-- one level of the place of a pattern in the list, read forward or backward ('by turns', the paper, 'The list'): a pattern with fewer ports is left, and the
-- place is what is passed over and the place of that pattern in its list, read forward or backward
pub record LevelOf (forward : Bool) (before : Taken) (l : Level) (after : Taken) : Type 0 where
  pub left : after.ports ≡ l.ports
  pub fewer : l.ports < before.ports
  pub place : place_of forward before ≡ l.passed + place_of l.forward after

-- the place of a pattern in the list, read forward or backward, after so many passed over, fits 64 bits
abbrev pub Placing : Bool → Taken → ℕ → Type 0
Placing forward t passed = passed + place_of forward t ≤ largest64
