-- `dictionary_walk::rows::row_of` meets its contract: from the row of no jacks, one jack more each turn.
-- Assumes nothing.
use mathlib.Core.Path.{refl}
use Rattle.dictionary_walk.proofs.Between.{row-none}
use Rattle.dictionary_walk.proofs.rows.row_of.Goals as goal

pub loop-k-init : goal.loop-k-init
loop-k-init c = row-none _ refl refl
