-- `pattern_joins::tables::join_of_four` meets its contract: the three rows of relation (7).
-- Assumes nothing.
use native.Mathlib.Omega.{arith}
use mathlib.Core.Path.{refl, sym}
use Rattle.listing.proofs.Rows.{join4-one, join4-two, join4-more}
use Rattle.pattern_joins.proofs.tables.join_of_four.Goals as goal

pub returns-in-1 : goal.returns-in-1
returns-in-1 c = sym (join4-one 4 _ refl c.in-1.is)

pub returns-in-2 : goal.returns-in-2
returns-in-2 c = sym (join4-two 4 _ refl c.in-2.is)

pub returns-in_default : goal.returns-in_default
returns-in_default c = sym (join4-more 4 _ refl (omega arith) (omega arith))
