-- `pattern_joins::tables::hop` meets its contract: the parity of i chooses the relation.
-- Assumes nothing.
use mathlib.Core.Path.{sym, ◌∙◌}
use Rattle.listing.proofs.Rows.{hop-odd, hop-even}
use Rattle.pattern_joins.proofs.tables.hop.Goals as goal

pub returns-then-is_odd : goal.returns-then-is_odd
returns-then-is_odd c = c.hop_b.ensures ∙ sym (hop-odd _ _ (sym c.is_odd.ensures ∙ c.if-is_odd.true))

pub returns-else-is_odd : goal.returns-else-is_odd
returns-else-is_odd c = c.hop_a.ensures ∙ sym (hop-even _ _ (sym c.is_odd.ensures ∙ c.if-is_odd.false))
