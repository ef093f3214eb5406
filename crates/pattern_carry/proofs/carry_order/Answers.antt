-- `pattern_carry::carry_order` meets its contract: a swap is one exchange, and a turn is two.
-- Assumes nothing.
use mathlib.Core.Path.{sym, ◌∙◌}
use Rattle.listing.proofs.Moves.{turn-swaps}
use Rattle.pattern_carry.proofs.carry_order.Goals as goal

pub returns-in-Turn : goal.returns-in-Turn
returns-in-Turn c =
    rw c.in-Turn.is (c.swap_twice.ensures ∙ sym (turn-swaps _ _ _ c.args.p.now (rw c.in-Turn.is at c.requires)))
