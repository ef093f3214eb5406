-- `pattern_joins::tables::last_join` meets its contract: the row i = n - 1 of relation (8), by the parity of n.
-- Assumes nothing.
use mathlib.Core.Path.{refl, sym, ◌∙◌}
use Rattle.listing.proofs.Rows.{join-top-odd, join-top-even}
use Rattle.pattern_joins.proofs.tables.last_join.Goals as goal

pub returns-then-is_odd : goal.returns-then-is_odd
returns-then-is_odd c = sym (join-top-odd _ _ c.requires.0 refl (sym c.is_odd.ensures ∙ c.if-is_odd.true))

pub returns-else-is_odd : goal.returns-else-is_odd
returns-else-is_odd c = sym (join-top-even _ _ c.requires.0 refl (sym c.is_odd.ensures ∙ c.if-is_odd.false))
