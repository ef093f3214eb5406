-- `plan_arcs::finding::Circuit::arc_at` is the arc of that leg, which is below the count.
-- Assumes nothing.
use Prim.Native.Nat.{◌<◌}
use native.Mathlib.Omega.{arith}
use lib.ListN.{length}
use borrow.Author.Rules.{rules}
use Rattle.listing.specs.Count.{count}
use Rattle.plan_rules.specs.Planned.{device}
use Rattle.plan_rules.specs.Rules.{legs_of}
use Rattle.plan_rules.proofs.Rules.{ruled, legs-many}
use Rattle.plan_arcs.proofs.Arcs.{leg-below}
use Rattle.plan_arcs.proofs.finding.Circuit.arc_at.Goals as goal

pub arc_of-requires : goal.arc_of-requires
arc_of-requires c =
    let few : c.args.i < length (legs_of c.args.self.ruled.plan) = omega (arith, legs-many device c.args.self.ruled.plan (search rules) (search rules) c.args.self.ruled.ruled) in
    let b = leg-below (count c.args.self.ruled.plan.ports) (legs_of c.args.self.ruled.plan) (ruled device c.args.self.ruled.plan (search rules) (search rules) c.args.self.ruled.ruled).fits.each c.args.i few _ c.leg_at.ensures in
    (omega (arith, b.0), omega (arith, b.1))
