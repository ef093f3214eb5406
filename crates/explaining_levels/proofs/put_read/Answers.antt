-- `explaining_levels::put_read` puts the text of the way.
-- Assumes nothing.
use mathlib.Core.Path.{sym, ap}
use Rattle.line_putting.proofs.Putting.{puts-as}
use Rattle.line_refusal.specs.Words.{quoted}
use Rattle.explaining.specs.Text.{read_text}
use Rattle.explaining_levels.proofs.put_read.Goals as goal

pub put_text-requires : goal.put_text-requires
unfolding quoted
put_text-requires c = rw c.if-forward.true at c.requires

pub returns-then-forward : goal.returns-then-forward
unfolding quoted
returns-then-forward c = puts-as (ap read_text (sym c.if-forward.true)) c.put_text.ensures

pub put_text-requires-else-forward : goal.put_text-requires-else-forward
unfolding quoted
put_text-requires-else-forward c = rw c.if-forward.false at c.requires

pub returns-else-forward : goal.returns-else-forward
unfolding quoted
returns-else-forward c = puts-as (ap read_text (sym c.if-forward.false)) c.put_text-else-forward.ensures
