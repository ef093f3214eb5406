-- `pattern_joins::tables::join` meets its contract: the rows of relations (7) and (8), the last three by what is left of n after i.
-- Assumes nothing.
use mathlib.Core.Path.{sym}
use native.Mathlib.Omega.{arith}
use Rattle.listing.proofs.Rows.{join-inner, join-third, join-second}
use Rattle.pattern_joins.proofs.tables.join.Goals as goal

pub returns-in_default-eq2 : goal.returns-in_default-eq2
returns-in_default-eq2 c = sym (join-second _ _ (omega arith) (omega arith))

pub returns-in_default-eq3 : goal.returns-in_default-eq3
returns-in_default-eq3 c = sym (join-third _ _ (omega arith) (omega arith))

-- a block that is neither the first nor one of the last three
pub returns-in_default : goal.returns-in_default
returns-in_default c = sym (join-inner _ _ (omega arith) (omega arith) (omega arith))
