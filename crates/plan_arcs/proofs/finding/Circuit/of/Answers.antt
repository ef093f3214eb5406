-- `plan_arcs::finding::Circuit::of`: a plan that keeps the rules has no more than the most ports.
-- Assumes nothing.
use borrow.Author.Rules.{rules}
use Rattle.plan_rules.specs.Planned.{device}
use Rattle.plan_rules.proofs.Rules.{ruled}
use Rattle.plan_arcs.proofs.finding.Circuit.of.Goals as goal

pub count_of-requires : goal.count_of-requires
count_of-requires c = (ruled device c.args.ruled.plan (search rules) (search rules) c.args.ruled.ruled).fits.many_ports
