-- `campaign_onward::status`: where a fit state is; 15 for one that is not.
-- Assumes nothing.
use mathlib.Core.Path.{sym, ap, ◌∙◌}
use Rattle.words.specs.Told.{accepted}
use Rattle.words.specs.Meaning.{refusal_of}
use Rattle.campaign_state.proofs.Fit.{fit-inside}
use Rattle.campaign_onward.proofs.Locates.{status-fit, status-unfit}
use Rattle.campaign_onward.proofs.status.Goals as goal

pub located-requires : goal.located-requires
located-requires c = fit-inside _ (sym c.is_fit.ensures ∙ c.if-is_fit.true)

pub returns-then-is_fit : goal.returns-then-is_fit
returns-then-is_fit c =
    ap accepted c.located.ensures ∙ status-fit _ (sym c.is_fit.ensures ∙ c.if-is_fit.true)

pub returns-else-is_fit : goal.returns-else-is_fit
returns-else-is_fit c =
    ap refusal_of c.nowhere.ensures ∙ status-unfit _ (sym c.is_fit.ensures ∙ c.if-is_fit.false)
