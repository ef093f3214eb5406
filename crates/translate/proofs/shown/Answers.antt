-- `translate::shown`: the newline stands inside the text.
-- Assumes nothing.
use mathlib.Core.Path.{◌≡◌, sym}
use mathlib.Core.List.{List}
use Prim.Native.Nat.{ℕ, ◌≤◌}
use native.Mathlib.Omega.{arith}
use lib.ListN.{length}
use lib.Seq.{length-take-le}
use Rattle.std.proofs.Common.{Option, Some, None}
use Rattle.std.specs.Option.{unwrap_or}
use Rattle.text_keys.specs.Parts.{newline, first_of}
use Rattle.text_keys.specs.Answers.{found_is}
use Rattle.text_keys.proofs.Cuts.{first-inside}
use Rattle.translate.proofs.shown.Goals as goal

-- the newline, or the end where there is none
inside : (t : List ℕ) (o : Option ℕ) → found_is o ≡ first_of newline t → unwrap_or o (length t) ≤ length t
inside t (Some k) e = omega (arith, first-inside newline t k (sym e))
inside t None e = omega arith

pub returns-clause-fits : goal.returns-clause-fits
returns-clause-fits c = omega (arith, inside _ c.find.result c.find.ensures, c.unwrap_or.ensures, c.min.ensures)

pub returns-clause-front : goal.returns-clause-front
returns-clause-front c = sym (length-take-le _ _ (omega (arith, inside _ c.find.result c.find.ensures, c.unwrap_or.ensures, c.min.ensures)))
