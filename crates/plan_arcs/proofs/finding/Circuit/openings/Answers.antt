-- `plan_arcs::finding::Circuit::openings` fills a place for each leg; the others stay nowhere.
-- Assumes nothing.
use mathlib.Core.Path.{refl}
use Prim.Native.Nat.{◌<◌}
use native.Mathlib.Omega.{arith}
use lib.ListN.{length}
use borrow.Author.Rules.{rules}
use Rattle.listing.specs.Limits.{most_legs}
use Rattle.plan_rules.specs.Planned.{device}
use Rattle.plan_rules.specs.Rules.{legs_of}
use Rattle.plan_rules.proofs.Rules.{few-legs, legs-many}
use Rattle.plan_arcs.specs.Arcs.{arcs_of}
use Rattle.plan_arcs.proofs.Arcs.{opened-more}
use Rattle.plan_arcs.proofs.finding.Circuit.openings.Goals as goal

pub loop-done-init : goal.loop-done-init
loop-done-init c =
    let few = few-legs device c.args.self.ruled.plan (search rules) (search rules) c.args.self.ruled.ruled in
    let many = legs-many device c.args.self.ruled.plan (search rules) (search rules) c.args.self.ruled.ruled in
    (many, omega arith, omega arith, refl)

pub loop-done-preserved : goal.loop-done-preserved
loop-done-preserved c =
    let more : c.loop-done.done < length (legs_of c.args.self.ruled.plan) = omega arith in (
      c.loop-done.invariant.0,
      c.loop-done.invariant.1,
      omega arith,
      opened-more c.args.self.size (arcs_of c.args.self.size c.args.self.ruled.plan) most_legs (legs_of c.args.self.ruled.plan) c.loop-done.starts c.loop-done.done _ more c.loop-done.invariant.1 c.loop-done.invariant.3 c.opening.ensures,
    )
