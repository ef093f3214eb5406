-- `campaign_state::marks::mark_rank`: the rank that the leg in hand names at the step.
use borrow.Author.Rules.{rules}
use Rattle.campaign_state.proofs.Places.{Sized, plan-ruled, few-ports, leg-below, step-below, start-listed}
use Rattle.campaign_state.proofs.marks.mark_rank.Goals as goal
use Rattle.campaign_state.proofs.marks.mark_rank.Goals.{Start}

sized : (c : Start) → Sized c.args.s
sized c = record { starts = search rules; runs = search rules; panel = search rules }

pub invariant_of-leg_at : goal.invariant_of-leg_at
invariant_of-leg_at c = record { ruled = plan-ruled c.args.s (sized (goal.at.invariant_of-leg_at c).Start) c.requires.places }

pub leg_at-l-requires : goal.leg_at-l-requires
leg_at-l-requires c = leg-below c.args.s (sized (goal.at.leg_at-l-requires c).Start) c.requires

pub rank_along-requires : goal.rank_along-requires
rank_along-requires c =
    let p = few-ports c.args.s (sized (goal.at.rank_along-requires c).Start) c.requires in
    (p.0, p.1, start-listed c.args.s (sized (goal.at.rank_along-requires c).Start) c.requires c.leg_at-l.result c.leg_at-l.ensures, step-below c.args.s (sized (goal.at.rank_along-requires c).Start) c.requires)
