-- `pattern_inverse::invert` meets its contract: each turn copies one port and stores its jack, or finds why p is no pattern. The loop's invariant: the first
-- `at` jacks hold ports, none of them its own; the copy has these ports, and the inverse their jacks and no other.
-- Assumes nothing.
use mathlib.Core.Path.{◌≡◌, refl}
use native.Mathlib.Omega.{arith}
use lib.ListN.{length, length-set}
use borrow.Author.Rules.{rules}
use Rattle.pattern_inverse.proofs.Filled.{Filled, filled-turn, filled-front, filled-inverse, no-below, no_above, no_own, no-again}
use Rattle.pattern_inverse.proofs.invert.Goals as goal
use Rattle.pattern_inverse.proofs.invert.Goals.{After-loop-at, then-port-lt1-via-then-port-lt1, then-port-lt1-via-else-port-lt1+then-n-port, then-port-lt1-via-else-port-lt1+else-n-port+then-port-jack, then-port-lt1-via-else-port-lt1+else-n-port+else-port-jack+then-inverse-port-ne0}

pub returns-then-port-lt1 : goal.returns-then-port-lt1
returns-then-port-lt1 c =
    elim c.then-port-lt1.branch [
      | then-port-lt1-via-then-port-lt1 w ↦ no-below _ c.loop-at.at (search rules) w.if-port-lt1.true
      | then-port-lt1-via-else-port-lt1+then-n-port w ↦ no_above _ c.loop-at.at (search rules) w.if-n-port.true
      | then-port-lt1-via-else-port-lt1+else-n-port+then-port-jack w ↦ no_own _ c.loop-at.at (search rules) w.if-port-jack.true
      | then-port-lt1-via-else-port-lt1+else-n-port+else-port-jack+then-inverse-port-ne0 w ↦
          no-again _ c.loop-at.at (search rules) _ _ c.loop-at.invariant.2 w.if-port-lt1.false w.if-inverse-port-ne0.true
    ]

pub loop-at-preserved : goal.loop-at-preserved
loop-at-preserved c = (
  simp length-set c.loop-at.invariant.0,
  simp length-set c.loop-at.invariant.1,
  filled-turn _ _ _ c.loop-at.at c.loop-at.invariant.2 (search rules) (search rules) c.if-port-lt1.false c.if-n-port.false c.if-port-jack.false c.if-inverse-port-ne0.false,
)

-- after the last jack
all : (c : After-loop-at) → Filled c.args.p.now c.loop-at.copy c.loop-at.inverse (length c.args.p.now)
all c = let e : c.loop-at.at ≡ length c.args.p.now = omega arith in rw e at c.loop-at.invariant.2

pub invariant_of-result-clause-arrays : goal.invariant_of-result-clause-arrays
invariant_of-result-clause-arrays c = filled-inverse _ _ _ (search rules) (search rules) (all c)

pub returns : goal.returns
returns c = (refl, filled-front _ _ _ (search rules) (all (goal.at.returns c).After-loop-at))
