-- `line_reader::order_lines::first_number` finds the first comma and reads what stands before it.
use mathlib.Core.Path.{sym}
use mathlib.Core.Option.{none, some}
use native.Mathlib.Omega.{arith}
use lib.Seq.{length-take-le}
use borrow.Author.Rules.{rules}
use Rattle.listing.specs.Limits.{largest64}
use Rattle.text_keys.specs.Parts.{comma}
use Rattle.text_keys.proofs.Cuts.{first-inside}
use Rattle.line_reader.proofs.Reader.{no-comma, before-comma}
use Rattle.line_reader.proofs.order_lines.first_number.Goals as goal

pub returns-in_err-k : goal.returns-in_err-k
returns-in_err-k c = rw c.from_residual.ensures (record { is = no-comma largest64 _ c.in_err-k.ensures; within = omega arith })

pub slice_bounds-read_number-end : goal.slice_bounds-read_number-end
slice_bounds-read_number-end c = sym (length-take-le _ _ (omega (arith, first-inside comma _ _ (sym c.in_ok-k.ensures))))

pub returns-in_err-n : goal.returns-in_err-n
returns-in_err-n c =
    rw c.from_residual-in_err-n.ensures
    (record { is = before-comma largest64 _ _ none c.in_ok-k.ensures c.in_err-n.ensures; within = omega arith })

pub overflow_add-result : goal.overflow_add-result
overflow_add-result c = let h = first-inside comma _ _ (sym c.in_ok-k.ensures) in search rules

pub returns : goal.returns
returns c = record {
  is = before-comma largest64 _ _ (some c.in_ok-n.n) c.in_ok-k.ensures c.in_ok-n.ensures;
  within = omega (arith, first-inside comma _ _ (sym c.in_ok-k.ensures));
}
