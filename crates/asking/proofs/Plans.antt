-- What a text that is a plan, or begins with the line of a mark, is concluded to ask.
-- Assumes nothing.
use mathlib.Core.Path.{◌≡◌, refl, ap, ◌∙◌}
use mathlib.Core.Bool.{true}
use mathlib.Core.List.{List}
use Prim.Native.Nat.{ℕ, ◌≤◌, ◌<◌}
use native.Mathlib.Omega.{arith}
use lib.ListN.{take}
use borrow.Author.Tests.{lt-ltb, le-ltb}
use Rattle.listing.specs.Limits.{most_legs}
use Rattle.promise.specs.Plan.{marks}
use Rattle.words.specs.Told.{Spot, accepted, refused, nowhere}
use Rattle.words.specs.declared.Signed.{Signed}
use Rattle.plan_lines.specs.Field.{Got, field_in}
use Rattle.plan_rules.specs.Planned.{Planned, device}
use Rattle.plan_rules.specs.Places.{held_of}
use Rattle.plan_rules.specs.Rules.{legs_of, plan_ruled}
use Rattle.plan_rules.specs.declared.Plan.{Plan}
use Rattle.plans.specs.Calls.{read_plan_of}
use Rattle.plans.proofs.Read.{read-plan-is, read_fits, read-places}
use Rattle.asking.specs.Questions.{mark_field, of_mark, mark_of, marked_asked, mark_asked, whole_plan, whole_asked}
use Rattle.asking.specs.Answers.{QuestionAsks}
use Rattle.words.proofs.Told.{refused-on}
use Rattle.asking.proofs.Ruled.{judged, held-marks}
use Rattle.asking.specs.declared.Question.TheVariants.{Whole, Mark}

-- ---- a plan that was refused

pub whole-refused : (t : List ℕ) (k : ℕ) (s : Spot) → refused k s ≡ judged (read_plan_of t) → refused k s ≡ whole_asked t
unfolding whole_asked
whole-refused t k s e = refused-on (read_plan_of t) (λ p. tt) (λ p. accepted (whole_plan p)) k s e

pub marked_refused : (m : ℕ) (t : List ℕ) (k : ℕ) (s : Spot) → refused k s ≡ judged (read_plan_of t) → refused k s ≡ marked_asked m t
unfolding marked_asked
marked_refused m t k s e = refused-on (read_plan_of t) (λ p. tt) (mark_of m) k s e

-- ---- one that was read

module _ (t : List ℕ) (plan : Plan) (ok : accepted tt ≡ judged (read_plan_of t)) (e : plan ≡ held_of most_legs (read_plan_of t)) where
  -- the plan that it is
  abbrev is-plan : (p : Planned) × (read_plan_of t ≡ accepted p)
  is-plan = read-plan-is t ok

  -- its marks are those of its places
  its-marks : marks (take plan.legs (legs_of plan)) ≡ marks is-plan.0.legs
  its-marks = ap (λ q. marks (take q.legs (legs_of q))) (read-places t plan ok e) ∙ held-marks is-plan.0 (read_fits t ok)

  -- all of it is asked for
  pub whole-read : (r : plan_ruled device plan ≡ true) → QuestionAsks (whole_asked t) (Whole (record { plan = plan; ruled = r }))
  unfolding whole_asked
  whole-read r = record { asked = whole_plan is-plan.0; is = rw is-plan.1; plan = read-places t plan ok e; whole = refl; mark = refl }

  -- a mark that it has
  pub mark-read : (k : ℕ) (r : plan_ruled device plan ≡ true) → k < marks (take plan.legs (legs_of plan))
      → QuestionAsks (marked_asked k t) (Mark (record { plan = plan; ruled = r }) k)
  unfolding marked_asked
  mark-read k r h =
      let below : k < marks is-plan.0.legs = omega (arith, its-marks) in
      record {
        asked = of_mark k is-plan.0;
        is = rw (is-plan.1, lt-ltb k (marks is-plan.0.legs) below);
        plan = read-places t plan ok e;
        whole = refl;
        mark = refl;
      }

  -- a mark that it does not have
  pub no-such-mark : (k : ℕ) → marks (take plan.legs (legs_of plan)) ≤ k → refused 6 nowhere ≡ marked_asked k t
  unfolding marked_asked
  no-such-mark k h = rw (is-plan.1, le-ltb k (marks is-plan.0.legs) (omega (arith, its-marks)))

-- ---- the line of a mark

pub line_refused : (t : List ℕ) (k : ℕ) (s : Spot) → refused k s ≡ field_in mark_field 0 t → refused k s ≡ mark_asked t
unfolding mark_asked
line_refused t k s e = rw (← e)

pub line_read : (t : List ℕ) (g : Got Signed) → accepted g ≡ field_in mark_field 0 t → marked_asked g.value.magnitude g.rest ≡ mark_asked t
unfolding mark_asked
line_read t g e = rw (← e)
