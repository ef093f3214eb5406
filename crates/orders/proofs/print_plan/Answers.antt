-- `orders::print_plan`: the rehearsal of an accepted plan runs on from its first moment.
-- Assumes nothing.
use mathlib.Core.Path.{sym, ap, subst, ◌∙◌}
use Rattle.words.specs.Meaning.{outcome_told}
use Rattle.printing.specs.Rehearsals.{state_of}
use Rattle.printing.proofs.StandsFor.{Rehearsing, begun-for, rehearsing-begun}
use Rattle.orders.proofs.print_plan.Goals as goal

pub print_all-requires : goal.print_all-requires
print_all-requires c =
    let R = c.rehearse-judged.ensures in
    subst Rehearsing (sym (ap state_of R.rehearsal ∙ begun-for _)) (rehearsing-begun _ (ap outcome_told (sym c.in-Ok.is) ∙ R.judged))
