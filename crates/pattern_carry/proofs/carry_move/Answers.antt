-- `pattern_carry::carry_move` meets its contract: the orders that the move is are carried out, one after the other.
-- Assumes nothing.
use Rattle.listing.specs.Orders.{carry_all}
use Rattle.pattern_carry.proofs.carry_move.Goals as goal

pub returns-in-Nothing : goal.returns-in-Nothing
unfolding carry_all
returns-in-Nothing c = rw c.in-Nothing.is

pub returns-in-One : goal.returns-in-One
unfolding carry_all
returns-in-One c = rw c.in-One.is c.carry_order.ensures

pub returns-in-Two : goal.returns-in-Two
unfolding carry_all
returns-in-Two c = rw c.in-Two.is c.swap_twice.ensures
