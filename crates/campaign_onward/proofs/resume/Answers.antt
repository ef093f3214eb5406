-- `campaign_onward::resume`: the panel's own refusal, or what going on with it comes to.
-- Assumes nothing.
use mathlib.Core.Path.{sym, ap, ◌∙◌}
use Rattle.words.specs.Meaning.{outcome_told}
use Rattle.campaign_onward.proofs.Resumes.{few-ports, stays-told, panel-first, goes-taken}
use Rattle.campaign_onward.proofs.resume.Goals as goal

pub on_panel-requires : goal.on_panel-requires
on_panel-requires c = few-ports _ (ap outcome_told (sym c.in-Ok.is) ∙ c.check_panel.ensures)

pub returns-in-Err : goal.returns-in-Err
returns-in-Err c =
    stays-told _ _ c.in-Err.f _ _ (panel-first _ _ c.in-Err.f (ap outcome_told (sym c.in-Err.is) ∙ c.check_panel.ensures)) c.stays.ensures

pub returns-in-Ok : goal.returns-in-Ok
returns-in-Ok c = goes-taken _ _ _ (ap outcome_told (sym c.in-Ok.is) ∙ c.check_panel.ensures) c.on_panel.ensures
