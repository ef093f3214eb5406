-- `plan_arcs::finding::lowest`: `low` is the lowest of the places from i on.
-- Assumes nothing.
use mathlib.Core.Path.{refl, ap, ◌∙◌}
use borrow.Author.Rules.{rules}
use Rattle.promise_arcs.specs.Finding.{lesser}
use Rattle.plan_arcs.proofs.Loops.{lowest-none, lowest-here, lowest-past}
use Rattle.plan_arcs.proofs.finding.lowest.Goals as goal

pub loop-i-init : goal.loop-i-init
loop-i-init c = (search rules, lowest-none c.args.c c.args.x c.args.starts.now _ refl)

pub loop-i-preserved-then-x-e : goal.loop-i-preserved-then-x-e
loop-i-preserved-then-x-e c =
    (search rules, c.lesser-low.ensures ∙ ap (lesser _) c.loop-i.invariant.1 ∙ lowest-here c.args.c c.args.x c.args.starts.now c.loop-i.i (search rules) c.loop-i.invariant.0 (search rules))

pub loop-i-preserved : goal.loop-i-preserved
loop-i-preserved c =
    (search rules, c.loop-i.invariant.1 ∙ lowest-past c.args.c c.args.x c.args.starts.now c.loop-i.i (search rules) c.loop-i.invariant.0 (search rules))
