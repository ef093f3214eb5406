-- What the answer says: how a text was judged, and that what is printed of it was put at the front of the buffer.
-- Assumes nothing.
use Rattle.std.specs.Prelude.{◌≡◌, List, ℕ, ◌≤◌}
use Rattle.words.specs.Told.{Told}
use Rattle.words.specs.Meaning.{outcome_told}
use Rattle.line_putting.specs.Putting.{Puts}
use Rattle.explaining.specs.Text.{most_explained}
use Rattle.explaining_line.specs.declared.Explained.{Explained}

-- r is the answer for a text that is told so: it is judged so, `text` was put into the buffer, which is then `left`, and it is no longer than any
pub record ExplainedIs (told : Told (Unit {0})) (text buf : List ℕ) (r : Explained) (left : List ℕ) : Type 0 where
  pub judged : outcome_told r.judged ≡ told
  pub puts : Puts 0 text buf r.len left
  pub fits : r.len ≤ most_explained
