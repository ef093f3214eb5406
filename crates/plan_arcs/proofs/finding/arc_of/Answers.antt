-- `plan_arcs::finding::arc_of` puts the arc of a leg together, by its sign.
-- Assumes nothing.
use native.Mathlib.Omega.{arith}
use Rattle.plan_arcs.proofs.Arcs.{arc-back}
use Rattle.plan_arcs.proofs.finding.arc_of.Goals as goal
use Rattle.plan_arcs.proofs.finding.arc_of.Goals.{then-l, else-l}

pub returns-clause-within : goal.returns-clause-within
returns-clause-within c =
    elim c.if-l.branch [
      | then-l w ↦ rw w.result-is (arc-back c.args.c c.args.l.start c.args.l.run c.args.l.back c.requires.0 c.requires.1 w.if-l.true _ w.backward.ensures).1
      | else-l w ↦ (omega arith, omega arith)
    ]
