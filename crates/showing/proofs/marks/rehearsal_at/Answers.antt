-- `showing::marks::rehearsal_at` finds the mark's leg and step, and puts the pattern of its rank on the panel.
-- Assumes nothing.
use mathlib.Core.Path.{sym}
use Prim.Native.Nat.{◌≤◌, ◌<◌}
use native.Mathlib.Omega.{arith}
use lib.Seq.{length-take-le}
use borrow.Author.Rules.{rules}
use Rattle.listing.specs.Count.{count}
use Rattle.listing.specs.Limits.{most_ports}
use Rattle.plan_rules.specs.Planned.{device}
use Rattle.plan_rules.proofs.Rules.{legs-many}
use Rattle.pattern_course.proofs.Lent.{front-asked, panel-put}
use Rattle.showing.proofs.Rehearsals.{Found, rank-asked, rank-listed, rehearsal-is}
use Rattle.showing.proofs.marks.rehearsal_at.Goals as goal
use Rattle.showing.proofs.marks.rehearsal_at.Goals.{After-leg_at-l, After-rank_along-rank}

-- the mark's place and leg
found : (c : After-leg_at-l) → Found c.args.ruled.plan c.args.k c.place_of-leg.result c.leg_at-l.result
found c =
    record { starts = search rules; runs = search rules; plan = c.args.ruled.ruled; place = c.place_of-leg.ensures; leg = c.leg_at-l.ensures }

-- the rank that was found is listed
listed : (c : After-rank_along-rank) → (c.args.ruled.plan.ports ≤ most_ports) × (c.rank_along-rank.result < count c.args.ruled.plan.ports)
listed c = rank-listed _ _ _ _ (found c.before) _ c.rank_along-rank.ensures

pub leg_at-l-requires : goal.leg_at-l-requires
leg_at-l-requires c =
    omega (arith, c.place_of-leg.ensures.leg, legs-many device c.args.ruled.plan (search rules) (search rules) c.args.ruled.ruled)

pub rank_along-rank-requires : goal.rank_along-rank-requires
rank_along-rank-requires c = rank-asked _ _ _ _ (found c)

pub slice_bounds-panel-end : goal.slice_bounds-panel-end
slice_bounds-panel-end c = let h = (listed (goal.at.slice_bounds-panel-end c).After-rank_along-rank).0 in search rules

pub slice_bounds-put_pattern-end : goal.slice_bounds-put_pattern-end
slice_bounds-put_pattern-end c = let h = (listed (goal.at.slice_bounds-put_pattern-end c).After-rank_along-rank).0 in sym (length-take-le _ _ (search rules))

pub put_pattern-requires : goal.put_pattern-requires
put_pattern-requires c =
    let l = listed (goal.at.put_pattern-requires c).After-rank_along-rank in
    let h = l.0 in
    front-asked _ c.rank_along-rank.result _ (search rules) h l.1

pub returns : goal.returns
returns c =
    let l = listed (goal.at.returns c).After-rank_along-rank in
    rehearsal-is _ _ _ _ (found (goal.at.returns c).After-leg_at-l) _ c.rank_along-rank.ensures _ (panel-put most_ports 0 _ _ _ l.0 l.1 c.put_pattern.ensures)
