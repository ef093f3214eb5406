-- `pattern_steps::steps::back_b` meets its contract: each turn writes one jack, from the first on. The loop's invariant: the first `at` jacks have the ports of
-- the step back, and those after them still have their own.
-- Assumes nothing.
use Prim.Native.Nat.{◌-◌}
use native.Mathlib.Omega.{arith}
use lib.ListN.{get_or, length-set}
use Rattle.pattern_steps.proofs.Stored.{lowered-on, lowered-done, from-jack}
use Rattle.pattern_steps.proofs.steps.back_b.Goals as goal

pub port_back_b-requires : goal.port_back_b-requires
port_back_b-requires c =
    (omega (arith, from-jack c.args.n (get_or c.args.p.now (c.args.n - 1) 0) c.loop-at.at c.loop-at-test.true), omega arith)

pub loop-at-preserved : goal.loop-at-preserved
loop-at-preserved c = (
  simp length-set c.loop-at.invariant.0,
  c.loop-at.invariant.1,
  lowered-on c.args.n c.loop-at.at _ _ _ c.loop-at.p c.requires.0 c.loop-at.invariant.2 c.loop-at.invariant.1 (omega arith) (omega arith) c.port_back_b.ensures,
)

pub returns : goal.returns
returns c = lowered-done c.args.n c.loop-at.at _ c.loop-at.p c.requires.0 c.loop-at.invariant.2 (omega arith) (omega arith)
