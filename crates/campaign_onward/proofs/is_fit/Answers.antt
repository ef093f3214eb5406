-- `campaign_onward::is_fit`: a state that stands anywhere is fit.
-- Assumes nothing.
use mathlib.Core.Path.{◌≡◌, refl, sym, ap, ◌∙◌}
use mathlib.Core.Bool.{true}
use Rattle.campaign_state.specs.Standing.{stance_is, stand_of, unfit, at_mark, at_end, seat, clear, next}
use Rattle.campaign_state.specs.Fitness.{fit}
use Rattle.campaign_state.specs.declared.State.{State}
use Rattle.campaign_state.specs.declared.judging.Stance.{Stance}
use Rattle.campaign_state.specs.declared.judging.Stance.TheVariants.{Unfit, AtMark, AtEnd, Seat, Clear, Next}
use Rattle.campaign_state.proofs.Fit.{stands}
use Rattle.campaign_onward.proofs.is_fit.Goals as goal
use Rattle.campaign_onward.proofs.is_fit.Goals.{in-Unfit, in_default}

-- a state with any stance but that one is fit
standing-fit : (s : State) (r : Stance) → stance_is r ≡ stand_of s → (r ≡ Unfit → ⊥) → true ≡ fit s
standing-fit s Unfit e n = absurd (n refl)
standing-fit s AtMark e n = sym (stands s at_mark e).0
standing-fit s AtEnd e n = sym (stands s at_end e).0
standing-fit s (Seat j) e n = sym (stands s (seat _) e).0
standing-fit s Clear e n = sym (stands s clear e).0
standing-fit s (Next o) e n = sym (stands s (next _) e).fits

pub returns : goal.returns
returns c =
    elim c.match-matches.branch [
      | in-Unfit w ↦ rw w.matches-is (sym (stands c.args.s unfit (ap stance_is (sym w.in-Unfit.is) ∙ c.judge.ensures)))
      | in_default w ↦ rw w.matches-is (standing-fit c.args.s c.judge.result c.judge.ensures w.in_default.not-Unfit)
    ]
