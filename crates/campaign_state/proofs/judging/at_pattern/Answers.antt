-- `campaign_state::judging::at_pattern` compares the panel with the pattern of the rank that the leg names at the step.
use mathlib.Core.Path.{sym}
use Prim.Native.Nat.{◌≤◌, ◌<◌}
use lib.Seq.{length-take-le}
use borrow.Author.Rules.{rules}
use Rattle.listing.specs.Count.{count}
use Rattle.listing.specs.Limits.{most_ports}
use Rattle.pattern_course.proofs.Lent.{front-asked, front-put}
use Rattle.campaign_way.proofs.Walks.{walk-listed}
use Rattle.campaign_state.proofs.Places.{Sized, few-ports, step-below, start-listed, same-pattern}
use Rattle.campaign_state.proofs.judging.at_pattern.Goals as goal
use Rattle.campaign_state.proofs.judging.at_pattern.Goals.{After-rank_along-rank, Start}

sized : (c : Start) → Sized c.args.s
sized c = record { starts = search rules; runs = search rules; panel = search rules }

-- there are 2 to 20 ports
ports : (c : Start) → (2 ≤ c.args.s.plan.ports) × (c.args.s.plan.ports ≤ most_ports)
ports c = few-ports c.args.s (sized c) c.requires.0

-- the leg starts at a listed rank
start : (c : Start) → c.args.l.start < count c.args.s.plan.ports
start c = start-listed c.args.s (sized c) c.requires.0 c.args.l c.requires.1

-- the rank at the step is listed
listed : (c : After-rank_along-rank) → c.rank_along-rank.result < count c.args.s.plan.ports
listed c =
    rw c.rank_along-rank.ensures (walk-listed c.args.s.plan.ports (ports c.before).0 c.args.l.start c.args.l.back c.args.s.step (start c.before))

pub rank_along-rank-requires : goal.rank_along-rank-requires
rank_along-rank-requires c =
    ((ports (goal.at.rank_along-rank-requires c).Start).0, (ports (goal.at.rank_along-rank-requires c).Start).1, start (goal.at.rank_along-rank-requires c).Start, step-below c.args.s (sized (goal.at.rank_along-rank-requires c).Start) c.requires.0)

pub slice_bounds-t-end : goal.slice_bounds-t-end
slice_bounds-t-end c = let h = (ports (goal.at.slice_bounds-t-end c).Start).1 in search rules

pub slice_bounds-put_pattern-end : goal.slice_bounds-put_pattern-end
slice_bounds-put_pattern-end c = let h = (ports (goal.at.slice_bounds-put_pattern-end c).Start).1 in sym (length-take-le _ _ (search rules))

pub put_pattern-requires : goal.put_pattern-requires
put_pattern-requires c =
    let h = (ports (goal.at.put_pattern-requires c).Start).1 in
    front-asked c.args.s.plan.ports c.rank_along-rank.result _ (search rules) h (listed (goal.at.put_pattern-requires c).After-rank_along-rank)

pub first_wrong-requires : goal.first_wrong-requires
first_wrong-requires c = (ports (goal.at.first_wrong-requires c).Start).1

pub returns : goal.returns
returns c =
    let h = (ports (goal.at.returns c).Start).1 in
    let pattern = front-put c.args.s.plan.ports c.rank_along-rank.result _ _ (search rules) (listed (goal.at.returns c).After-rank_along-rank) c.put_pattern.ensures in
    same-pattern c.args.s (sized (goal.at.returns c).Start) c.requires.0 c.args.l c.requires.1 _ _ _ c.rank_along-rank.ensures (listed (goal.at.returns c).After-rank_along-rank) pattern c.first_wrong.ensures
