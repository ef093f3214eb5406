-- `pattern_steps::steps::step_b` meets its contract: each turn writes one jack, from the last down. The loop's invariant: the jacks above `at` have the step's
-- ports, and those up to it still have the ports of the shorter pattern.
-- Assumes nothing.
use mathlib.Core.Path.{◌≡◌}
use Prim.Native.Nat.{◌+◌, ◌-◌}
use native.Mathlib.Omega.{arith}
use lib.ListN.{length-set}
use Rattle.listing_course.proofs.InPlace.{raising-end}
use Rattle.pattern_steps.proofs.Stored.{raised-on}
use Rattle.pattern_steps.proofs.steps.step_b.Goals as goal

pub loop-at-preserved : goal.loop-at-preserved
loop-at-preserved c =
    let jack : c.loop-at.at - 1 + 1 ≡ c.loop-at.at = omega arith in (
      simp length-set c.loop-at.invariant.0,
      raised-on c.args.m c.args.i c.loop-at.at _ _ c.loop-at.out c.loop-at.invariant.1 c.requires.3 (omega arith) (omega arith) (rw jack at c.port_by_b.ensures),
    )

pub returns : goal.returns
returns c =
    let z : c.loop-at.at ≡ 0 = omega arith in
    raising-end c.args.m c.args.i _ c.loop-at.out (rw z at c.loop-at.invariant.1) (omega arith)
