-- `text_entries::one_line` finds the first newline: it has to be the last byte.
-- Assumes nothing.
use mathlib.Core.Path.{sym}
use Prim.Native.Nat.{◌<◌}
use native.Mathlib.Omega.{arith}
use lib.ListN.{length}
use borrow.Author.Rules.{rules}
use Rattle.text_keys.specs.Parts.{newline}
use Rattle.text_keys.proofs.Cuts.{first-inside}
use Rattle.text_entries.proofs.Lines.{no_line, goes-on, one-line}
use Rattle.text_entries.proofs.one_line.Goals as goal
use Rattle.text_entries.proofs.one_line.Goals.{In_ok-k}

inside : (c : In_ok-k) → c.in_ok-k.k < length c.args.t.now
inside c = first-inside newline _ _ (sym c.in_ok-k.ensures)

pub overflow_add-k : goal.overflow_add-k
overflow_add-k c = let h = inside c in search rules

pub returns-then-k-t-clause-line : goal.returns-then-k-t-clause-line
returns-then-k-t-clause-line c = goes-on _ _ c.in_ok-k.ensures (omega (arith, c.if-k-t.true))

pub returns-in_err-k-clause-line : goal.returns-in_err-k-clause-line
returns-in_err-k-clause-line c = rw c.from_residual.ensures (no_line _ c.in_err-k.ensures)

pub returns-clause-line : goal.returns-clause-line
returns-clause-line c = one-line _ _ c.in_ok-k.ensures (omega (arith, c.if-k-t.false))

pub returns-clause-within : goal.returns-clause-within
returns-clause-within c = inside (goal.at.returns-clause-within c).In_ok-k
