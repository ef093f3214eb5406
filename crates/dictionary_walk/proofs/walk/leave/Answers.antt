-- `dictionary_walk::walk::leave` meets its contract: the port is taken, and the row is that of one jack less.
-- Assumes nothing.
use mathlib.Core.Path.{◌∙◌}
use native.Mathlib.Omega.{arith}
use Rattle.dictionary_walk.proofs.Jacks.{port-among, leaves_free, leaves-stands, leaves-own}
use Rattle.dictionary_walk.proofs.walk.leave.Goals as goal

pub overflow_sub-taken : goal.overflow_sub-taken
overflow_sub-taken c = (port-among _ _ _ _ c.requires.0 c.requires.1 _ _ c.requires.2 c.requires.3).0

pub bounds-taken-port : goal.bounds-taken-port
bounds-taken-port c = omega (arith, port-among _ _ _ _ c.requires.0 c.requires.1 _ _ c.requires.2 c.requires.3, c.requires.1.most)

pub less_if-requires : goal.less_if-requires
less_if-requires c = (leaves-own _ _ _ _ c.requires.0 c.requires.1 _ _ c.requires.2 c.requires.3).1

pub returns-clause-stands : goal.returns-clause-stands
returns-clause-stands c = leaves-stands _ _ _ _ c.requires.0 c.requires.1 _ _ c.requires.2 c.requires.3 _ c.take_jack.ensures

pub returns-clause-free : goal.returns-clause-free
returns-clause-free c = leaves_free _ _ _ _ c.requires.0 c.requires.1 _ _ c.requires.2 c.requires.3

pub returns-clause-own : goal.returns-clause-own
returns-clause-own c = c.less_if.ensures ∙ (leaves-own _ _ _ _ c.requires.0 c.requires.1 _ _ c.requires.2 c.requires.3).0
