-- `campaign_state::judging::places_fit` asks what the definition asks, in its order.
use mathlib.Core.Path.{sym, ◌∙◌}
use Rattle.campaign_state.specs.Fitness.{places_fit}
use Rattle.campaign_state.proofs.judging.places_fit.Goals as goal

pub returns-then-plan_ruled : goal.returns-then-plan_ruled
unfolding places_fit
returns-then-plan_ruled c =
    rw (sym c.plan_ruled.ensures ∙ c.if-plan_ruled.true) c.empty_from.ensures

pub returns-else-plan_ruled : goal.returns-else-plan_ruled
unfolding places_fit
returns-else-plan_ruled c =
    let e = sym c.plan_ruled.ensures ∙ c.if-plan_ruled.false in
    c.if-plan_ruled.false ∙ rw e
