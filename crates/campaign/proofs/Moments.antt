-- States at other moments, field by field; and what a refusal, a closed mark and a report leave.
-- Assumes nothing.
use mathlib.Core.Path.{◌≡◌, refl, sym, ap, ◌∙◌}
use mathlib.Core.Bool.{Bool, true, false}
use mathlib.Core.List.{List, ◌++◌}
use Prim.Native.Nat.{ℕ, suc, ◌+◌, ◌≤◌, ◌<◌}
use native.Mathlib.Nat.{zero-add}
use native.Mathlib.Numerals.{add-one}
use native.Mathlib.Omega.{arith}
use lib.ListN.{length, take, drop, take-append-drop}
use borrow.Author.Tests.{lt-ltb, le-ltb}
use Rattle.promise.specs.Campaign as model
use Rattle.promise.specs.Campaign.{Call, here, closed, placed, refusal, ran, error, gave_up, heard, with_mark, with_seat, with_counts}
use Rattle.campaign_state.specs.State.{setting_of, moment_of, at_moment}
use Rattle.campaign_state.specs.Fitness.{places_fit, InPlan}
use Rattle.campaign_state.specs.declared.State.{State}
use Rattle.campaign.specs.Calls.{after}

-- the state with its plan, and everything else as given
abbrev pub made : State → ℕ → ℕ → ℕ → ℕ → ℕ → Bool → Bool → ℕ → List ℕ → State
made s leg step covered opened errors standing ended seat panel = record {
  plan = s.plan;
  panel = panel;
  leg = leg;
  step = step;
  covered = covered;
  opened = opened;
  errors = errors;
  standing = standing;
  ended = ended;
  seat = seat;
}

-- a moment with the panel as it was leaves the panel
pub panel-stays : (m : model.State) (s : State) → m.panel ≡ take s.plan.ports s.panel
    → at_moment m s ≡ made s m.leg m.step m.covered m.opened m.errors m.standing m.ended m.to_seat s.panel
panel-stays m s e =
    ap (made s m.leg m.step m.covered m.opened m.errors m.standing m.ended m.to_seat)
    (ap (λ q. q ++ drop s.plan.ports s.panel) e ∙ take-append-drop s.plan.ports s.panel)

-- the moment of a state is its own
pub moment-stays : (s : State) → at_moment (moment_of s) s ≡ s
moment-stays s = panel-stays (moment_of s) s refl

-- 'Buffers and state stay': a refusal leaves the state
pub refusal-leaves : (c : Call) (k : ℕ) (s : State) → s ≡ after c (refusal k) s
unfolding model.after
refusal-leaves c k s = sym (moment-stays s)

-- one and a number is the number and one
one_more : (n : ℕ) → 1 + n ≡ n + 1
one_more n = omega arith

-- ---- a closed mark

module _ (s : State) where
  abbrev pub left : ℕ → ℕ → Bool → State
  left leg step ended = made s leg step s.covered s.opened s.errors false ended s.seat s.panel

  -- on to the next step
  pub closed-step : s.step < (here (setting_of s) (moment_of s)).run → left s.leg (s.step + 1) false ≡ at_moment (closed (setting_of s) (moment_of s)) s
  unfolding closed
  closed-step h =
      rw (lt-ltb s.step (here (setting_of s) (moment_of s)).run h)
      (ap (λ k. left s.leg k false) (add-one s.step) ∙ sym (panel-stays (placed s.leg (suc s.step) false (moment_of s)) s refl))

  module _ (done : (here (setting_of s) (moment_of s)).run ≤ s.step) where
    -- or to step 0 of the next leg
    pub closed-leg : s.leg + 1 < length (setting_of s).legs → left (s.leg + 1) 0 false ≡ at_moment (closed (setting_of s) (moment_of s)) s
    unfolding closed
    closed-leg h =
        rw (le-ltb s.step (here (setting_of s) (moment_of s)).run done, lt-ltb (suc s.leg) (length (setting_of s).legs) (omega arith))
        (ap (λ k. left k 0 false) (add-one s.leg) ∙ sym (panel-stays (placed (suc s.leg) 0 false (moment_of s)) s refl))

    -- at the plan's last mark leg and step stay and the end is shown
    pub closed-last : length (setting_of s).legs ≤ s.leg + 1 → left s.leg s.step true ≡ at_moment (closed (setting_of s) (moment_of s)) s
    unfolding closed
    closed-last h =
        rw (le-ltb s.step (here (setting_of s) (moment_of s)).run done, le-ltb (suc s.leg) (length (setting_of s).legs) (omega arith))
        (sym (panel-stays (placed s.leg s.step true (moment_of s)) s refl))

  -- ---- reports that are taken

  -- the state with its counts as given
  abbrev pub counted : ℕ → ℕ → ℕ → Bool → State
  counted covered opened errors standing = made s s.leg s.step covered opened errors standing s.ended s.seat s.panel

  -- it is at the same leg and step
  pub counted-inside : InPlan s → (covered opened errors : ℕ) (standing : Bool) → InPlan (counted covered opened errors standing)
  unfolding places_fit
  counted-inside I covered opened errors standing = record { places = I.places; leg = I.leg; step = I.step }

  -- 'Ran adds one to covered and closes the mark'
  pub ran-leaves : let t = counted (s.covered + 1) s.opened s.errors s.standing in
      at_moment (closed (setting_of t) (moment_of t)) t ≡ at_moment (heard (setting_of s) ran (moment_of s)) s
  unfolding heard
  ran-leaves = rw (one_more s.covered, zero-add s.opened, zero-add s.errors) refl

  -- 'Gave up adds one to open and closes it'
  pub gave-up-leaves : let t = counted s.covered (s.opened + 1) s.errors s.standing in
      at_moment (closed (setting_of t) (moment_of t)) t ≡ at_moment (heard (setting_of s) gave_up (moment_of s)) s
  unfolding heard
  gave-up-leaves = rw (one_more s.opened, zero-add s.covered, zero-add s.errors) refl

  -- 'Error adds one to errors', the mark stands no more, and jack 1 is the next to seat
  pub error-leaves : made s s.leg s.step s.covered s.opened (s.errors + 1) false s.ended 1 s.panel
      ≡ at_moment (heard (setting_of s) error (moment_of s)) s
  unfolding heard
  error-leaves =
      rw (one_more s.errors, zero-add s.covered, zero-add s.opened)
      (sym (panel-stays (with_seat 1 (with_mark false (with_counts s.covered s.opened (s.errors + 1) (moment_of s)))) s refl))
