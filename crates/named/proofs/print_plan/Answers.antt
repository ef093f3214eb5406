-- `named::print_plan`: an accepted plan is within the rules.
-- Assumes nothing.
use mathlib.Core.Path.{sym, ap, ◌∙◌}
use Rattle.words.specs.Meaning.{outcome_told}
use Rattle.plans.proofs.Read.{read-ruled}
use Rattle.named.proofs.print_plan.Goals as goal

pub invariant_of-print_named : goal.invariant_of-print_named
invariant_of-print_named c =
    let R = c.read_plan-judged in
    record { ruled = read-ruled _ R.result.plan (ap outcome_told (sym c.in-Ok.is) ∙ R.ensures.judged) R.ensures.plan }
