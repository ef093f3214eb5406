-- `pattern_moves::onward::row_of` meets its contract: the number of the level and its letter, and whether there is a hop, as the open level says.
-- Assumes nothing.
use mathlib.Core.Path.{◌∙◌}
use Rattle.pattern_moves.proofs.Rows.{row-hop, hop-four, hop-forward, hop-backward}
use Rattle.pattern_moves.proofs.onward.row_of.Goals as goal

pub hop_from-requires : goal.hop_from-requires
hop_from-requires c =
    rw c.is_odd.ensures (hop-four c.requires.1.1 c.if-o.false, c.requires.0, hop-forward c.requires.1.1 c.if-o.false, hop-backward c.requires.1.1 c.if-o.false)

pub returns-else-o : goal.returns-else-o
returns-else-o c =
    (rw c.is_odd.ensures at c.hop_from.ensures) ∙ row-hop c.requires.1.1 c.if-o.false
