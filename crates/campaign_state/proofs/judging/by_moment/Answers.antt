-- `campaign_state::judging::by_moment`: the first test that fails makes the state unfit; where all pass the panel decides.
use mathlib.Core.Path.{◌≡◌, sym, ap, ◌∙◌}
use mathlib.Core.Bool.{true}
use Prim.Native.Nat.{◌≤◌, ◌<◌}
use native.Mathlib.Omega.{arith}
use lib.ListN.{length}
use borrow.Author.Rules.{rules}
use Rattle.promise.specs.Campaign.{here}
use Rattle.words.specs.declared.Leg.{Leg}
use Rattle.plan_rules.specs.Rules.{legs_of}
use Rattle.campaign_state.specs.declared.State.{State}
use Rattle.campaign_state.specs.State.{setting_of, moment_of}
use Rattle.campaign_state.specs.Fitness.{places_fit, InPlan, IsLeg}
use Rattle.campaign_state.proofs.Places.{Sized, plan-ruled, many-legs, pattern-over}
use Rattle.campaign_state.proofs.Stands.{unfit-leg, unfit-step, unfit-errors, unfit-counts, unfit-end, unfit-seat, stand-panel}
use Rattle.campaign_state.proofs.judging.by_moment.Goals as goal
use Rattle.campaign_state.proofs.judging.by_moment.Goals.{Start, Then-s-l, else-s-l-via-then-s-l+then-s-le-MOST_ERRORS+then-counts_right+then-end_right+else-seat_right, else-s-l-via-then-s-l+then-s-le-MOST_ERRORS+then-counts_right+else-end_right, else-s-l-via-then-s-l+then-s-le-MOST_ERRORS+else-counts_right, else-s-l-via-then-s-l+else-s-le-MOST_ERRORS, else-s-l-via-else-s-l}

sized : (c : Start) → Sized c.args.s
sized c = record { starts = search rules; runs = search rules; panel = search rules }

module _ (s : State) (S : Sized s) (p : places_fit s ≡ true) (h : s.leg < s.plan.legs) where
  -- the leg is one of the plan's
  leg : s.leg < length (legs_of s.plan)
  leg = omega (arith, many-legs s S p)

  module _ (l : Leg) (e : IsLeg s l) where
    -- its run is that of the leg in hand
    run : l.run ≡ (here (setting_of s) (moment_of s)).run
    run = ap (λ x. x.run) e

    -- past the tests of leg and step
    inside : s.step ≤ l.run → InPlan s
    inside b = record { places = p; leg = leg; step = rw (← run) b }

-- at the leg that was found
within : (c : Then-s-l) → Sized c.args.s → InPlan c.args.s
within c S = inside c.args.s S c.requires c.if-s.false c.leg_at-l.result c.leg_at-l.ensures c.if-s-l.true

pub returns-then-s : goal.returns-then-s
returns-then-s c =
    unfit-leg c.args.s c.requires (omega (arith, many-legs c.args.s (sized (goal.at.returns-then-s c).Start) c.requires))

pub invariant_of-leg_at : goal.invariant_of-leg_at
invariant_of-leg_at c = record { ruled = plan-ruled _ (sized (goal.at.invariant_of-leg_at c).Start) c.requires }

pub counts_right-requires : goal.counts_right-requires
counts_right-requires c =
    within (goal.at.counts_right-requires c).Then-s-l (sized (goal.at.counts_right-requires c).Start)

pub end_right-requires : goal.end_right-requires
end_right-requires c =
    (within (goal.at.end_right-requires c).Then-s-l (sized (goal.at.end_right-requires c).Start), c.leg_at-l.ensures)

pub by_panel-requires : goal.by_panel-requires
by_panel-requires c =
    (within (goal.at.by_panel-requires c).Then-s-l (sized (goal.at.by_panel-requires c).Start), c.leg_at-l.ensures)

pub returns-then-seat_right : goal.returns-then-seat_right
returns-then-seat_right c =
    let S = sized (goal.at.returns-then-seat_right c).Start in
    let i = within (goal.at.returns-then-seat_right c).Then-s-l S in
    c.by_panel.ensures
    ∙ stand-panel _ i.places i.leg i.step c.if-s-le-MOST_ERRORS.true (sym c.counts_right.ensures ∙ c.if-counts_right.true)
    (sym c.end_right.ensures ∙ c.if-end_right.true) (sym c.seat_right.ensures ∙ c.if-seat_right.true)
    (pattern-over _ S i)

pub returns-else-s-l : goal.returns-else-s-l
returns-else-s-l c =
    let S = sized (goal.at.returns-else-s-l c).Start in
    let a = leg c.args.s S c.requires c.if-s.false in
    let r = run c.args.s S c.requires c.if-s.false c.leg_at-l.result c.leg_at-l.ensures in
    elim c.else-s-l.branch [
      | else-s-l-via-then-s-l+then-s-le-MOST_ERRORS+then-counts_right+then-end_right+else-seat_right w ↦
          unfit-seat _ c.requires a (rw (← r) w.if-s-l.true) w.if-s-le-MOST_ERRORS.true (sym w.counts_right.ensures ∙ w.if-counts_right.true)
          (sym w.end_right.ensures ∙ w.if-end_right.true) (sym w.seat_right.ensures ∙ w.if-seat_right.false)
      | else-s-l-via-then-s-l+then-s-le-MOST_ERRORS+then-counts_right+else-end_right w ↦
          unfit-end _ c.requires a (rw (← r) w.if-s-l.true) w.if-s-le-MOST_ERRORS.true (sym w.counts_right.ensures ∙ w.if-counts_right.true)
          (sym w.end_right.ensures ∙ w.if-end_right.false)
      | else-s-l-via-then-s-l+then-s-le-MOST_ERRORS+else-counts_right w ↦
          unfit-counts _ c.requires a (rw (← r) w.if-s-l.true) w.if-s-le-MOST_ERRORS.true (sym w.counts_right.ensures ∙ w.if-counts_right.false)
      | else-s-l-via-then-s-l+else-s-le-MOST_ERRORS w ↦
          unfit-errors _ c.requires a (rw (← r) w.if-s-l.true) (omega (arith, w.if-s-le-MOST_ERRORS.false))
      | else-s-l-via-else-s-l w ↦
          unfit-step _ c.requires a (rw (← r) w.if-s-l.false)
    ]
