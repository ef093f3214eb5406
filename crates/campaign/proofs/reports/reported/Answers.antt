-- `campaign::reports::reported`: 15 for an unfit state; a mark that stands for it takes the report; else it is refused.
use mathlib.Core.Path.{◌≡◌, refl, sym, ap, ◌∙◌}
use mathlib.Core.Bool.{true, false}
use mathlib.Core.Logic.{◌⊎◌, inl, inr}
use Rattle.words.specs.declared.Jack.{Jack}
use Rattle.words.specs.declared.Order.{Order}
use Rattle.campaign_state.specs.declared.State.{State}
use Rattle.campaign_state.specs.declared.judging.Stance.{Stance}
use Rattle.campaign_state.specs.declared.judging.Stance.TheVariants.{AtEnd, Seat, Clear, Next}
use Rattle.words.specs.declared.Reason.TheVariants.{Unfit}
use Rattle.campaign_state.specs.Standing.{stand_of, stance_is, unfit, at_mark, at_end, seat, clear, next}
use Rattle.campaign_state.specs.Fitness.{fit}
use Rattle.campaign_state.proofs.Fit.{moment-fit, Stood, stands}
use Rattle.campaign.specs.Answers.{on_is}
use Rattle.campaign.proofs.Asked.{unfit-answer, named-answer}
use Rattle.campaign.proofs.Tells.{report-refused, report-named, unheard}
use Rattle.campaign.proofs.reports.reported.Goals as goal
use Rattle.campaign.proofs.reports.reported.Goals.{In-AtMark}

-- where the state stands, case by case
at-mark : (c : In-AtMark) → Stood c.args.s at_mark
at-mark c = stands _ at_mark (ap stance_is (sym c.in-AtMark.is) ∙ c.judge.ensures)

-- at the end, before a seat, before a mark and before an order none stands
unmarked : (s : State) (r : Stance) → stance_is r ≡ stand_of s → (r ≡ AtEnd) ⊎ (((j : Jack) × (r ≡ Seat j)) ⊎ ((r ≡ Clear) ⊎ ((o : Order) × (r ≡ Next o))))
    → (fit s ≡ true) × (s.standing ≡ false)
unmarked s r e (inl q) = let f = stands s at_end (ap stance_is (sym q) ∙ e) in (f.0, f.1)
unmarked s r e (inr (inl (j, q))) =
    let f = stands s (seat _) (ap stance_is (sym q) ∙ e) in
    (f.0, ((moment-fit _ f.0).seated f.1).0)
unmarked s r e (inr (inr (inl q))) = let f = stands s clear (ap stance_is (sym q) ∙ e) in (f.0, f.1)
unmarked s r e (inr (inr (inr (o, q)))) = let f = stands s (next _) (ap stance_is (sym q) ∙ e) in (f.fits, f.none)

pub stands_for-requires : goal.stands_for-requires
stands_for-requires c = at-mark c

pub of_mark-requires : goal.of_mark-requires
of_mark-requires c = at-mark (goal.at.of_mark-requires c).In-AtMark

-- it is the report of the mark that stands
pub returns-then-stands_for : goal.returns-then-stands_for
returns-then-stands_for c =
    report-named (on_is c.args.on) c.args.kind c.args.s _
    (named-answer c.args.s (on_is c.args.on) c.args.kind (sym c.stands_for.ensures ∙ c.if-stands_for.true)) c.of_mark.ensures

pub of_none-requires : goal.of_none-requires
of_none-requires c = (at-mark (goal.at.of_none-requires c).In-AtMark).0

pub of_none-requires-in-AtEnd : goal.of_none-requires-in-AtEnd
of_none-requires-in-AtEnd c = (unmarked c.args.s c.judge.result c.judge.ensures c.in-AtEnd.is).0

pub returns-in-Unfit : goal.returns-in-Unfit
returns-in-Unfit c =
    report-refused _ _ c.args.s _ Unfit 15 c.refused.ensures refl
    (unfit-answer _ c.args.s (stands c.args.s unfit (ap stance_is (sym c.in-Unfit.is) ∙ c.judge.ensures)))

pub returns-in-AtEnd : goal.returns-in-AtEnd
returns-in-AtEnd c = unheard (on_is c.args.on) c.of_none-in-AtEnd.ensures (unmarked c.args.s c.judge.result c.judge.ensures c.in-AtEnd.is).1
