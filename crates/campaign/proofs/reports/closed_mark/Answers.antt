-- `campaign::reports::closed_mark`: on to the next step, else to the next leg, else the end is shown.
use mathlib.Core.Path.{◌≡◌, ap}
use native.Mathlib.Omega.{arith}
use borrow.Author.Rules.{rules}
use Rattle.promise.specs.Campaign.{here}
use Rattle.campaign_state.specs.State.{setting_of, moment_of}
use Rattle.campaign_state.proofs.Places.{Sized, plan-ruled, many-legs, leg-below, few-legs}
use Rattle.campaign.proofs.Moments.{closed-step, closed-leg, closed-last}
use Rattle.campaign.proofs.reports.closed_mark.Goals as goal
use Rattle.campaign.proofs.reports.closed_mark.Goals.{After-leg_at-l, Start}

sized : (c : Start) → Sized c.args.s
sized c = record { starts = search rules; runs = search rules; panel = search rules }

-- the run of the leg in hand
run : (c : After-leg_at-l) → c.leg_at-l.result.run ≡ (here (setting_of c.args.s) (moment_of c.args.s)).run
run c = ap (λ l. l.run) c.leg_at-l.ensures

pub invariant_of-leg_at : goal.invariant_of-leg_at
invariant_of-leg_at c = record { ruled = plan-ruled c.args.s (sized (goal.at.invariant_of-leg_at c).Start) c.requires.places }

pub leg_at-l-requires : goal.leg_at-l-requires
leg_at-l-requires c = leg-below c.args.s (sized (goal.at.leg_at-l-requires c).Start) c.requires

pub returns-then-s-l : goal.returns-then-s-l
returns-then-s-l c =
    closed-step c.args.s (rw (← run (goal.at.returns-then-s-l c).After-leg_at-l) c.if-s-l.true)

pub overflow_add-s : goal.overflow_add-s
overflow_add-s c =
    omega (arith, leg-below c.args.s (sized (goal.at.overflow_add-s c).Start) c.requires, few-legs c.args.s (sized (goal.at.overflow_add-s c).Start) c.requires)

pub returns-then-s : goal.returns-then-s
returns-then-s c =
    closed-leg c.args.s (rw (← run (goal.at.returns-then-s c).After-leg_at-l) c.if-s-l.false) (rw (many-legs c.args.s (sized (goal.at.returns-then-s c).Start) c.requires.places) c.if-s.true)

pub returns-else-s : goal.returns-else-s
returns-else-s c =
    closed-last c.args.s (rw (← run (goal.at.returns-else-s c).After-leg_at-l) c.if-s-l.false) (rw (many-legs c.args.s (sized (goal.at.returns-else-s c).Start) c.requires.places) c.if-s.false)
