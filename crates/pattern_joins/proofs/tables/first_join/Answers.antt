-- `pattern_joins::tables::first_join` meets its contract: the row i = 1 of relation (8), by the parity of n.
-- Assumes nothing.
use mathlib.Core.Path.{refl, sym, ◌∙◌}
use Rattle.listing.proofs.Rows.{join-one-odd, join-one-even}
use Rattle.pattern_joins.proofs.tables.first_join.Goals as goal

pub returns-then-is_odd : goal.returns-then-is_odd
returns-then-is_odd c = sym (join-one-odd _ 1 c.requires.0 refl (sym c.is_odd.ensures ∙ c.if-is_odd.true))

pub returns-else-is_odd : goal.returns-else-is_odd
returns-else-is_odd c = sym (join-one-even _ 1 c.requires.0 refl (sym c.is_odd.ensures ∙ c.if-is_odd.false))
