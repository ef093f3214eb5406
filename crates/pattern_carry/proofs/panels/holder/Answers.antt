-- `pattern_carry::panels::holder` gives the first jack that holds the port: the position of the port, counted from 1.
-- Assumes nothing.
use mathlib.Core.Path.{sym, ◌∙◌}
use Rattle.pattern_carry.proofs.Held.{held-at, held-nowhere}
use Rattle.pattern_carry.proofs.panels.holder.Goals as goal

pub returns-in-Some : goal.returns-in-Some
returns-in-Some c = held-at _ _ _ (sym c.place_of.ensures ∙ c.in-Some.is)

pub returns-in-None : goal.returns-in-None
returns-in-None c = held-nowhere _ _ (sym c.place_of.ensures ∙ c.in-None.is)
