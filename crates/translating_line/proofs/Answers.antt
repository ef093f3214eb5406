-- What was told of a line, and the bytes left: a refusal leaves them as they were (`goes-refused`), and so does a line without text (`Goes-Silent`).
-- Assumes nothing.
use mathlib.Core.Path.{◌≡◌, refl, subst}
use mathlib.Core.List.{List}
use Prim.Native.Nat.{ℕ}
use Rattle.words.specs.Told.{Told, Spot, refused}
use Rattle.line_format.specs.Calls.{over}
use Rattle.translating.specs.Lines.{Went}
use Rattle.translating_line.specs.Answers.{went_told, text_in}

abbrev pub Goes : Told Went → List ℕ → Told (ℕ × ℕ) → List ℕ → Type 0
Goes told old answer left = (answer ≡ went_told told) × (left ≡ over (text_in told) old)

-- what is told of one line is told of another that is the same
pub goes-as : (told other : Told Went) → told ≡ other → (old : List ℕ) (answer : Told (ℕ × ℕ)) (left : List ℕ) → Goes told old answer left → Goes other old answer left
goes-as told other e old answer left G = subst (λ x. Goes x old answer left) e G

pub goes-refused : (told : Told Went) (old : List ℕ) (k : ℕ) (s : Spot) → refused k s ≡ told → Goes told old (refused k s) old
goes-refused told old k s e = goes-as (refused k s) told e old (refused k s) old (refl, refl)
