-- The marks that a rehearsal takes as run, as the code counts them: within the rules those of the legs before and the step, after the end those of all legs;
-- outside the rules none.
-- Assumes nothing.
use mathlib.Core.Path.{◌≡◌, refl, sym, ◌∙◌}
use mathlib.Core.Bool.{true, false}
use Prim.Native.Nat.{◌+◌, ◌≤◌, ◌<◌}
use native.Mathlib.Omega.{arith}
use lib.ListN.{length, take}
use borrow.Author.Tests.{le-leb, lt-ltb, le-ltb, lt-leb}
use Rattle.listing.specs.Limits.{most_legs, largest64}
use Rattle.promise.specs.Plan.{leg_at, marks}
use Rattle.promise.specs.Campaign.{closed_marks}
use Rattle.plan_rules.specs.Planned.{device}
use Rattle.plan_rules.specs.Rules.{legs_of, plan_ruled}
use Rattle.plan_rules.proofs.Rules.{ruled, legs-many, few-legs}
use Rattle.plan_rules.proofs.Marks.{marks-more, marks-fit, marks-all, number-before}
use Rattle.campaign_state.specs.State.{setting_of, moment_of}
use Rattle.printing.specs.Rehearsals.{state_with, ran_of}
use Rattle.printing.specs.declared.Rehearsal.{Rehearsal}

-- ---- within the rules

-- the closed marks of the state are the rehearsal's
pub closed-ran : (r : Rehearsal) → plan_ruled device r.plan ≡ true → r.leg < r.plan.legs → r.step ≤ (leg_at (legs_of r.plan) r.leg).run
    → let t = state_with 0 r in closed_marks (setting_of t) (moment_of t) ≡ ran_of r
unfolding ran_of
closed-ran r e h k = rw (e, lt-ltb r.leg r.plan.legs h, le-leb r.step (leg_at (legs_of r.plan) r.leg).run k) refl

-- a rehearsal with its places, whose plan, leg and step are within the rules
pub record InRules (r : Rehearsal) : Type 0 where
  pub starts : length r.plan.starts ≡ most_legs
  pub runs : length r.plan.runs ≡ most_legs
  pub plan : plan_ruled device r.plan ≡ true
  pub leg : r.leg < r.plan.legs
  pub step : r.step ≤ (leg_at (legs_of r.plan) r.leg).run

module _ (r : Rehearsal) (I : InRules r) where
  many : length (legs_of r.plan) ≡ r.plan.legs
  many = legs-many device r.plan I.starts I.runs I.plan

  -- after the end all
  pub ran-all : r.ended ≡ true → marks (take r.plan.legs (legs_of r.plan)) ≡ ran_of r
  ran-all t = marks-all (legs_of r.plan) r.plan.legs (sym many) ∙ rw t refl ∙ closed-ran r I.plan I.leg I.step

  -- before it those of the legs before, and the step
  pub ran-some : r.ended ≡ false → marks (take r.leg (legs_of r.plan)) + r.step ≡ ran_of r
  ran-some t = sym (number-before (legs_of r.plan) r.leg r.step (omega (arith, many))) ∙ rw t refl ∙ closed-ran r I.plan I.leg I.step

  -- which can be counted
  pub ran-room : marks (take r.leg (legs_of r.plan)) + r.step < largest64
  ran-room =
      let more = marks-more (legs_of r.plan) r.leg _ _ (omega (arith, many, I.leg)) refl refl in
      let fits = marks-fit r.plan (ruled device r.plan I.starts I.runs I.plan) (r.leg + 1)
      (omega (arith, I.leg, few-legs device r.plan I.starts I.runs I.plan)) in
      omega (arith, more, fits, I.step)

-- ---- outside the rules

module _ (r : Rehearsal) where
  pub no-plan : plan_ruled device r.plan ≡ false → 0 ≡ ran_of r
  unfolding ran_of
  no-plan e = rw e refl

  pub no-leg : plan_ruled device r.plan ≡ true → r.plan.legs ≤ r.leg → 0 ≡ ran_of r
  unfolding ran_of
  no-leg e h = rw (e, le-ltb r.leg r.plan.legs h) refl

  pub no_step : plan_ruled device r.plan ≡ true → r.leg < r.plan.legs → (leg_at (legs_of r.plan) r.leg).run < r.step → 0 ≡ ran_of r
  unfolding ran_of
  no_step e h k = rw (e, lt-ltb r.leg r.plan.legs h, lt-leb r.step (leg_at (legs_of r.plan) r.leg).run k) refl
