-- `pattern_joins::tables::hop_a` meets its contract: the two rows of relation (5).
-- Assumes nothing.
use native.Mathlib.Omega.{arith}
use mathlib.Core.Path.{sym}
use Rattle.listing.proofs.Rows.{hop_a-one, hop_a-more}
use Rattle.pattern_joins.proofs.tables.hop_a.Goals as goal

pub returns-in-1 : goal.returns-in-1
returns-in-1 c = sym (hop_a-one _ _ c.in-1.is)

pub returns-in_default : goal.returns-in_default
returns-in_default c = sym (hop_a-more _ _ (omega arith))
