-- `pattern_joins::tables::hop_b` meets its contract: the two rows of relation (3).
-- Assumes nothing.
use native.Mathlib.Omega.{arith}
use mathlib.Core.Path.{sym}
use Rattle.listing.proofs.Rows.{hop_b-one, hop_b-more}
use Rattle.pattern_joins.proofs.tables.hop_b.Goals as goal

pub returns-in-1 : goal.returns-in-1
returns-in-1 c = sym (hop_b-one _ _ c.in-1.is)

pub returns-in_default : goal.returns-in_default
returns-in_default c = sym (hop_b-more _ _ (omega arith))
