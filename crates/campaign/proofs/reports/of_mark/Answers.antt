-- `campaign::reports::of_mark`: 14 for a kind above 2; ran and gave up count and close the mark; an error counts, up to the limit, and leaves it to come again.
use mathlib.Core.Path.{refl, ◌∙◌}
use mathlib.Core.Option.{none}
use native.Mathlib.Omega.{arith}
use borrow.Author.Rules.{rules}
use Rattle.words.specs.declared.Reason.TheVariants.{Kind, Errors}
use Rattle.promise.specs.Campaign as model
use Rattle.promise.specs.Campaign.{report, taken}
use Rattle.campaign_state.proofs.Fit.{fit-inside}
use Rattle.campaign_state.proofs.Places.{Sized}
use Rattle.campaign.proofs.Moments.{counted-inside, ran-leaves, gave-up-leaves, error-leaves}
use Rattle.campaign.proofs.Asked.{counts-room, kind-answer, full-answer, error-answer, ran-answer, gave-up-answer}
use Rattle.campaign.proofs.Tells.{report-refused, report-taken, report-kind}
use Rattle.campaign.proofs.reports.of_mark.Goals as goal
use Rattle.campaign.proofs.reports.of_mark.Goals.{Start}

sized : (c : Start) → Sized c.args.s
sized c = record { starts = search rules; runs = search rules; panel = search rules }

pub overflow_add-s : goal.overflow_add-s
overflow_add-s c = omega (arith, counts-room c.args.s (sized (goal.at.overflow_add-s c).Start) c.requires.0 c.requires.1)

pub closed_mark-requires : goal.closed_mark-requires
closed_mark-requires c = counted-inside c.args.s (fit-inside _ c.requires.0) _ _ _ _

pub returns-in-0 : goal.returns-in-0
unfolding model.after
returns-in-0 c =
    report-kind 0 _ c.args.s _ c.in-0.is
    (report-taken (report 0) _ c.args.s _ _ c.taken.ensures (ran-answer c.args.s c.requires.0 c.requires.1)
    (c.closed_mark.ensures ∙ ran-leaves c.args.s))

pub returns-then-s-ge-MOST_ERRORS : goal.returns-then-s-ge-MOST_ERRORS
returns-then-s-ge-MOST_ERRORS c =
    report-kind 1 _ c.args.s _ c.in-1.is
    (report-refused (report 1) _ c.args.s _ Errors 16 c.refused.ensures refl (full-answer c.args.s c.requires.0 c.requires.1 (omega (arith, c.if-s-ge-MOST_ERRORS.true))))

pub returns-else-s-ge-MOST_ERRORS : goal.returns-else-s-ge-MOST_ERRORS
unfolding model.after
returns-else-s-ge-MOST_ERRORS c =
    report-kind 1 _ c.args.s _ c.in-1.is
    (report-taken (report 1) _ c.args.s _ _ c.taken-in-1.ensures (error-answer c.args.s c.requires.0 c.requires.1 c.if-s-ge-MOST_ERRORS.false)
    (error-leaves c.args.s))

pub overflow_add-s-in-2 : goal.overflow_add-s-in-2
overflow_add-s-in-2 c = omega (arith, counts-room c.args.s (sized (goal.at.overflow_add-s-in-2 c).Start) c.requires.0 c.requires.1)

pub closed_mark-requires-in-2 : goal.closed_mark-requires-in-2
closed_mark-requires-in-2 c = counted-inside c.args.s (fit-inside _ c.requires.0) _ _ _ _

pub returns-in-2 : goal.returns-in-2
unfolding model.after
returns-in-2 c =
    report-kind 2 _ c.args.s _ c.in-2.is
    (report-taken (report 2) _ c.args.s _ _ c.taken-in-2.ensures (gave-up-answer c.args.s c.requires.0 c.requires.1)
    (c.closed_mark-in-2.ensures ∙ gave-up-leaves c.args.s))

pub returns-in_default : goal.returns-in_default
returns-in_default c =
    report-refused _ _ c.args.s _ Kind 14 c.refused-in_default.ensures refl (kind-answer c.args.s c.requires.0 none c.args.kind (omega arith))
