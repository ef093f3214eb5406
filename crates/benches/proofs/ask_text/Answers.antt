-- `benches::ask_text`: the newline stands inside the text.
-- Assumes nothing.
use mathlib.Core.Path.{sym}
use Prim.Native.Nat.{◌<◌}
use native.Mathlib.Omega.{arith}
use lib.ListN.{length}
use lib.Seq.{length-take-le}
use borrow.Author.Rules.{rules}
use Rattle.text_keys.proofs.Cuts.{first-inside}
use Rattle.benches.proofs.ask_text.Goals as goal

pub slice_bounds-ask-end : goal.slice_bounds-ask-end
slice_bounds-ask-end c = let h : c.in-Some.k < length c.args.t.now = first-inside _ _ _ (sym c.in-Some.ensures) in sym (length-take-le _ _ (omega arith))

pub overflow_add-k : goal.overflow_add-k
overflow_add-k c = let h : c.in-Some.k < length c.args.t.now = first-inside _ _ _ (sym c.in-Some.ensures) in search rules

pub slice_bounds-ask-count : goal.slice_bounds-ask-count
slice_bounds-ask-count c = let h : c.in-Some.k < length c.args.t.now = first-inside _ _ _ (sym c.in-Some.ensures) in omega arith

pub slice_bounds-ask-start : goal.slice_bounds-ask-start
slice_bounds-ask-start c = let h : c.in-Some.k < length c.args.t.now = first-inside _ _ _ (sym c.in-Some.ensures) in search rules
