-- `campaign_state::judging::judge`: a state whose places are not within the rules is unfit.
use mathlib.Core.Path.{sym, ◌∙◌}
use Rattle.campaign_state.proofs.Stands.{unfit-places}
use Rattle.campaign_state.proofs.judging.judge.Goals as goal

pub returns-else-places_fit : goal.returns-else-places_fit
returns-else-places_fit c = unfit-places _ (sym c.places_fit.ensures ∙ c.if-places_fit.false)
