-- `benches::ask`: a line with a key has as many bytes.
-- Assumes nothing.
use mathlib.Core.Path.{sym}
use Prim.Native.Nat.{◌≤◌}
use lib.ListN.{length}
use borrow.Author.Rules.{rules}
use Rattle.text_keys.proofs.Keys.{key-room}
use Rattle.benches.proofs.ask.Goals as goal

pub slice_bounds-ask_shares-count : goal.slice_bounds-ask_shares-count
slice_bounds-ask_shares-count c = key-room _ _ (sym c.if-has_key.ensures)

pub slice_bounds-ask_shares-start : goal.slice_bounds-ask_shares-start
slice_bounds-ask_shares-start c = let h : 7 ≤ length c.args.line.now = key-room _ _ (sym c.if-has_key.ensures) in search rules

pub slice_bounds-ask_plan-count : goal.slice_bounds-ask_plan-count
slice_bounds-ask_plan-count c = key-room _ _ (sym c.if-has_key-2.ensures)

pub slice_bounds-ask_plan-start : goal.slice_bounds-ask_plan-start
slice_bounds-ask_plan-start c = let h : 5 ≤ length c.args.line.now = key-room _ _ (sym c.if-has_key-2.ensures) in search rules

pub slice_bounds-ask_add-count : goal.slice_bounds-ask_add-count
slice_bounds-ask_add-count c = key-room _ _ (sym c.if-has_key-3.ensures)

pub slice_bounds-ask_add-start : goal.slice_bounds-ask_add-start
slice_bounds-ask_add-start c = let h : 4 ≤ length c.args.line.now = key-room _ _ (sym c.if-has_key-3.ensures) in search rules
