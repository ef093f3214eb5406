-- `campaign_onward::on_panel`: 15 for a panel of other ports or a state that is not fit with it; else the state with the panel put in, its seats begun anew.
-- Assumes nothing.
use mathlib.Core.Path.{sym, ap, ◌∙◌}
use Rattle.words.specs.Meaning.{refusal_of}
use Rattle.campaign_state.specs.Fitness.{fit}
use Rattle.campaign_onward.proofs.Resumes.{other-ports, stays-told, goes_at, stays-unfit}
use Rattle.campaign_onward.proofs.on_panel.Goals as goal
use Rattle.campaign_onward.proofs.on_panel.Goals.{else-panel-s-via-then-panel-s+else-is_fit, else-panel-s-via-else-panel-s}

pub returns-then-is_fit : goal.returns-then-is_fit
returns-then-is_fit c =
    goes_at _ _ _ _ c.put_in-t.ensures c.seats_anew.ensures c.if-panel-s.true (sym c.if-is_fit.true ∙ c.is_fit.ensures)

pub returns-else-panel-s : goal.returns-else-panel-s
returns-else-panel-s c =
    elim c.else-panel-s.branch [
      | else-panel-s-via-then-panel-s+else-is_fit w ↦
          stays-told _ _ c.nowhere.result _ _
          (ap refusal_of c.nowhere.ensures ∙ stays-unfit _ _ w.if-panel-s.true (sym w.if-is_fit.false ∙ w.is_fit.ensures ∙ ap fit c.put_in-t.ensures))
          c.stays.ensures
      | else-panel-s-via-else-panel-s w ↦
          stays-told _ _ c.nowhere.result _ _ (ap refusal_of c.nowhere.ensures ∙ other-ports _ _ w.if-panel-s.false) c.stays.ensures
    ]
