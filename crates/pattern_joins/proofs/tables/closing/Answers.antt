-- `pattern_joins::tables::closing` meets its contract: 2 ports, and then the parity of n.
-- Assumes nothing.
use mathlib.Core.Path.{sym, ◌∙◌}
use Rattle.listing.proofs.Rows.{closing-two, closing-odd, closing-even}
use Rattle.pattern_joins.proofs.tables.closing.Goals as goal

pub returns-then-n-eq-FEWEST_PORTS : goal.returns-then-n-eq-FEWEST_PORTS
returns-then-n-eq-FEWEST_PORTS c = sym (closing-two _ c.if-n-eq-FEWEST_PORTS.true)

pub returns-then-is_odd : goal.returns-then-is_odd
returns-then-is_odd c = sym (closing-odd _ c.if-n-eq-FEWEST_PORTS.false (sym c.is_odd.ensures ∙ c.if-is_odd.true))

pub returns-else-is_odd : goal.returns-else-is_odd
returns-else-is_odd c = sym (closing-even _ c.if-n-eq-FEWEST_PORTS.false (sym c.is_odd.ensures ∙ c.if-is_odd.false))
