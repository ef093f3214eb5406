-- The answer for what is told so, and so printed.
-- Assumes nothing.
use mathlib.Core.Path.{◌≡◌, ◌∙◌}
use mathlib.Core.List.{List}
use Prim.Native.Nat.{ℕ}
use Rattle.words.specs.Told.{Told}
use Rattle.line_putting.proofs.Putting.{puts-as}
use Rattle.explaining_line.specs.Answers.{ExplainedIs}
use Rattle.explaining_line.specs.declared.Explained.{Explained}

pub explained-as : {told judged : Told (Unit {0})} {text printed buf left : List ℕ} {r : Explained} → told ≡ judged → text ≡ printed
    → ExplainedIs told text buf r left → ExplainedIs judged printed buf r left
explained-as {r = r} e f E = record { judged = E.judged ∙ e; puts = puts-as f E.puts; fits = E.fits }
