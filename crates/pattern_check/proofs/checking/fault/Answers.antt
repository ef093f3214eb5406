-- `pattern_check::checking::fault` gives the first fault: the jacks before `at` have none, and of those before jack at + 1 none before k holds its port.
-- Each way out of the loops is one case of `fault_at`.
use mathlib.Core.Path.{◌≡◌, refl, sym, ap, ◌∙◌}
use Prim.Native.Nat.{suc}
use borrow.Author.Rules.{rules}
use Rattle.pattern_check.specs.Faults.{earlier}
use Rattle.pattern_check.specs.Answers.{fault_is}
use Rattle.pattern_check.proofs.Faults.{seek-here, seek-on, seek-none, at_zero, at_above, at-repeated, at_own, at_other, at-panel, from-none, found, passed}
use Rattle.pattern_check.proofs.checking.fault.Goals as goal
use Rattle.pattern_check.proofs.checking.fault.Goals.{After-loop-k}
use Rattle.pattern_check.proofs.checking.fault.Goals.{then-port-lt1-via-then-port-lt1, then-port-lt1-via-else-port-lt1+then-n-port}
use Rattle.pattern_check.proofs.checking.fault.Goals.{else-pattern-via-then-pattern+else-port-next, else-pattern-via-else-pattern}

-- at the inner loop's end the port is at none of the earlier jacks
unrepeated : (c : After-loop-k) → earlier c.args.p.now (suc c.jacks.at) ≡ 0
unrepeated c = c.loop-k.invariant.1 ∙ seek-none _ _ _ _ c.loop-k-test.false

pub loop-k-preserved : goal.loop-k-preserved
loop-k-preserved c = (c.loop-k.invariant.0, c.loop-k.invariant.1 ∙ seek-on _ _ _ _ c.loop-k-test.true c.if-p-k.false)

pub jacks-preserved : goal.jacks-preserved
jacks-preserved c =
    let fresh = unrepeated (goal.at.jacks-preserved c).After-loop-k in (
      c.loop-k.invariant.0 ∙ c.jacks.invariant.0,
      passed _ _ _ c.jacks.invariant.1 (search rules)
          (elim c.else-pattern.branch [
            | else-pattern-via-then-pattern+else-port-next w ↦ at_other _ _ _ _ (search rules) (search rules) fresh w.if-pattern.true w.if-port-next.false
            | else-pattern-via-else-pattern w ↦ at-panel _ _ _ _ (search rules) (search rules) fresh w.if-pattern.false
          ]),
    )

pub returns-after-jacks : goal.returns-after-jacks
returns-after-jacks c = ap fault_is c.jacks.invariant.0 ∙ sym (c.jacks.invariant.1 ∙ from-none _ _ _ _ c.jacks-test.false)

pub returns-then-port-lt1 : goal.returns-then-port-lt1
returns-then-port-lt1 c =
    found _ c.args.p.now _ c.jacks.invariant.1 c.jacks-test.true _
    (elim c.then-port-lt1.branch [
      | then-port-lt1-via-then-port-lt1 w ↦ at_zero _ _ c.args.p.now _ w.if-port-lt1.true
      | then-port-lt1-via-else-port-lt1+then-n-port w ↦ at_above _ _ c.args.p.now _ w.if-port-lt1.false w.if-n-port.true
    ])
    (λ g. refl)

pub returns-then-p-k : goal.returns-then-p-k
returns-then-p-k c =
    found _ _ _ c.jacks.invariant.1 (search rules) _
    (at-repeated _ _ _ _ (search rules) (search rules) _ (c.loop-k.invariant.1 ∙ seek-here _ _ _ _ c.loop-k-test.true c.if-p-k.true))
    (λ g. refl)

pub returns-then-port-next : goal.returns-then-port-next
returns-then-port-next c =
    found _ _ _ c.jacks.invariant.1 (search rules) _
    (at_own _ _ _ _ (search rules) (search rules) (unrepeated (goal.at.returns-then-port-next c).After-loop-k) c.if-pattern.true c.if-port-next.true)
    (λ g. refl)
