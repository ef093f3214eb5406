-- `plan_arcs::finding::lesser` is the definition's test.
-- Assumes nothing.
use native.Mathlib.Omega.{arith}
use Rattle.listing.proofs.Numbers.{either}
use Rattle.promise_arcs.proofs.Finding.{lesser-cases}
use Rattle.plan_arcs.proofs.finding.lesser.Goals as goal

pub returns : goal.returns
returns c =
    either (lesser-cases c.args.a c.args.b) (λ w. omega (arith, c.min.ensures)) (λ w. omega (arith, c.min.ensures))
