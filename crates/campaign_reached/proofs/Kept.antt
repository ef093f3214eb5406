-- A call leaves the plan and the unused places as they were: so a state within the rules stays there, and its moment goes on as the model says. So the
-- turns of any calls are turns of the model (`turns-model`), and the state that they leave is within the rules (`left_so`).
-- Assumes nothing.
use mathlib.Core.Path.{◌≡◌, refl, sym, ap, ◌∙◌}
use mathlib.Core.Bool.{Bool, true, false, cond, ◌&&◌}
use mathlib.Core.List.{List, [], ◌∷◌, ◌++◌, map}
use Prim.Native.Nat.{ℕ, suc, ◌≤◌}
use native.Mathlib.Omega.{arith}
use lib.Dec.{ltb}
use lib.ListN.{length, take, drop, length-append, length-drop}
use lib.Seq.{length-take-le, take-append_seam, drop-append_seam}
use Rattle.listing.proofs.Panels.{length-carry}
use Rattle.promise.specs.Campaign as model
use Rattle.promise.specs.Campaign.{Setting, Call, request, report_to, Report, report_of, is_closing, tallied, with_mark, with_seat, placed}
use Rattle.promise.specs.Campaign.{Answer, movement, seat, mark, the_end, taken, refusal, here, answer, closed, heard, after}
use Rattle.promise.specs.Bench.{Turn, run, leaves}
use Rattle.plan_rules.specs.Planned.{device}
use Rattle.plan_rules.specs.Rules.{plan_ruled}
use Rattle.campaign_state.specs.State.{setting_of, moment_of, at_moment}
use Rattle.campaign_state.specs.Fitness.{empty_from, places_fit}
use Rattle.campaign_state.specs.declared.State.{State}
use Rattle.campaign_state.proofs.Places.{empty-from}
use Rattle.campaign.specs.Calls.{answer_of, left_of}
use Rattle.campaign_reached.specs.Turns.{Called, call_of, turns_of, left_after}

-- ---- the panel's length in the model

-- closing a mark leaves what does not hang on the leg, the step and the end
pub closed-leaves : {A : Type 0} (field : model.State → A) (C : Setting) (m : model.State) → ((i k : ℕ) (b : Bool) → field (placed i k b m) ≡ field m)
    → field (closed C m) ≡ field m
unfolding closed
closed-leaves field C m same = by (ltb m.step (here C m).run) (ltb (suc m.leg) (length C.legs))
  where
    by : (a b : Bool)
        → field (cond a (placed m.leg (suc m.step) false m) (cond b (placed (suc m.leg) 0 false m) (placed m.leg m.step true m))) ≡ field m
    by true b = same m.leg (suc m.step) false
    by false true = same (suc m.leg) 0 false
    by false false = same m.leg m.step true

-- a report leaves the panel
heard-panel : (C : Setting) (w : Report) (m : model.State) → (heard C w m).panel ≡ m.panel
unfolding heard
heard-panel C w m = by (is_closing w)
  where
    by : (b : Bool) → (cond b (closed C (tallied w m)) (with_seat 1 (with_mark false (tallied w m)))).panel ≡ m.panel
    by true = closed-leaves (λ s. s.panel) C (tallied w m) (λ i k b. refl)
    by false = refl

-- no call changes how many jacks the panel has
pub after-length : (C : Setting) (c : Call) (a : Answer) (m : model.State) → length (after C c a m).panel ≡ length m.panel
unfolding after
after-length C c (movement o) m = length-carry o m.panel
after-length C c (seat j) m = refl
after-length C c (mark k r) m = refl
after-length C c (the_end k) m = refl
after-length C (request room) taken m = refl
after-length C (report_to o kind) taken m = ap length (heard-panel C (report_of kind) m)
after-length C c (refusal k) m = refl

-- ---- a state at another moment

-- within the rules, with a place on the panel for each port
pub record Kept (s : State) : Type 0 where
  pub fit : places_fit s ≡ true
  pub room : s.plan.ports ≤ length s.panel

module _ (m : model.State) (s : State) (k : Kept s) (long : length m.panel ≡ s.plan.ports) where
  -- its moment is that one
  moment-at : moment_of (at_moment m s) ≡ m
  moment-at =
      let e : take s.plan.ports (m.panel ++ drop s.plan.ports s.panel) ≡ m.panel =
      ap (λ n. take n (m.panel ++ drop s.plan.ports s.panel)) (sym long) ∙ take-append_seam m.panel (drop s.plan.ports s.panel) in
      ap
      (λ q. record {
        panel = q;
        leg = m.leg;
        step = m.step;
        covered = m.covered;
        opened = m.opened;
        errors = m.errors;
        standing = m.standing;
        ended = m.ended;
        to_seat = m.to_seat;
      })
      e

  -- the unused places are as they were
  empty-at : empty_from s.plan.ports (m.panel ++ drop s.plan.ports s.panel) ≡ empty_from s.plan.ports s.panel
  empty-at =
      let n = s.plan.ports in
      let q = m.panel ++ drop n s.panel in
      empty-from n q
      ∙ ap (λ i. empty_from 0 (drop i q)) (sym long)
      ∙ ap (empty_from 0) (drop-append_seam m.panel (drop n s.panel))
      ∙ sym (empty-from n s.panel)

  -- so it stays within the rules
  kept_at : Kept (at_moment m s)
  unfolding places_fit
  kept_at = record {
    fit = ap (λ b. plan_ruled device s.plan && b) empty-at ∙ k.fit;
    room = omega (arith, length-append m.panel (drop s.plan.ports s.panel));
  }

-- ---- what a call leaves

module _ (s : State) (k : Kept s) (c : Call) where
  -- within the rules the model decides
  pub answer-model : answer_of c s ≡ answer (setting_of s) c (moment_of s)
  unfolding answer_of
  answer-model = ap (λ b. cond b (answer (setting_of s) c (moment_of s)) (refusal 15)) k.fit

  -- the panel keeps a place for each port
  long : (a : Answer) → length (after (setting_of s) c a (moment_of s)).panel ≡ s.plan.ports
  long a = after-length (setting_of s) c a (moment_of s) ∙ length-take-le s.plan.ports s.panel k.room

  pub left-kept : Kept (left_of c s)
  unfolding left_of
  left-kept = kept_at (after (setting_of s) c (answer_of c s) (moment_of s)) s k (long (answer_of c s))

  -- as many places as it had
  pub left-places : length (left_of c s).panel ≡ length s.panel
  unfolding left_of
  left-places =
      let n = s.plan.ports in
      let q = (after (setting_of s) c (answer_of c s) (moment_of s)).panel in
      omega (arith, length-append q (drop n s.panel), long (answer_of c s), length-drop n s.panel, k.room)

  -- the moment goes on as in the model
  pub left-model : moment_of (left_of c s) ≡ after (setting_of s) c (answer (setting_of s) c (moment_of s)) (moment_of s)
  unfolding left_of
  left-model =
      moment-at (after (setting_of s) c (answer_of c s) (moment_of s)) s k (long (answer_of c s))
      ∙ ap (λ a. after (setting_of s) c a (moment_of s)) answer-model

  -- and the campaign is the same
  pub left-setting : setting_of (left_of c s) ≡ setting_of s
  unfolding left_of
  left-setting = refl

-- ---- any calls

-- so a call on a state of the campaign C, by the model of C
module _ (C : Setting) (s : State) (k : Kept s) (e : setting_of s ≡ C) (c : Call) where
  pub answer-on : answer_of c s ≡ answer C c (moment_of s)
  answer-on = answer-model s k c ∙ ap (λ D. answer D c (moment_of s)) e

  pub left-on : moment_of (left_of c s) ≡ after C c (answer C c (moment_of s)) (moment_of s)
  left-on = left-model s k c ∙ ap (λ D. after D c (answer D c (moment_of s)) (moment_of s)) e

-- the turns are turns of the model
pub turns-model : (C : Setting) (cs : List Called) (s : State) → Kept s → setting_of s ≡ C → turns_of cs s ≡ run C (map call_of cs) (moment_of s)
unfolding turns_of run
turns-model C [] s k e = refl
turns-model C (c ∷ cs) s k e =
    let x = call_of c in
    let first : List Turn = record { call = x; answered = answer_of x s; left = moment_of (left_of x s) } ∷ turns_of cs (left_of x s) in
    let same : first ≡ run C (x ∷ map call_of cs) (moment_of s) =
    ap (λ b. record { call = x; answered = b; left = moment_of (left_of x s) } ∷ turns_of cs (left_of x s)) (answer-on C s k e x)
    ∙ ap (λ ts. record { call = x; answered = answer C x (moment_of s); left = moment_of (left_of x s) } ∷ ts)
    (turns-model C cs (left_of x s) (left-kept s k x) (left-setting s k x ∙ e))
    ∙ ap (λ n. record { call = x; answered = answer C x (moment_of s); left = n } ∷ run C (map call_of cs) n) (left-on C s k e x) in
    same

-- the state that they leave is within the rules, of the same campaign, and its moment is the one that the turns leave
pub record Left (C : Setting) (cs : List Called) (s : State) : Type 0 where
  pub kept : Kept (left_after cs s)
  pub setting : setting_of (left_after cs s) ≡ C
  pub moment : moment_of (left_after cs s) ≡ leaves (moment_of s) (turns_of cs s)

pub left_so : (C : Setting) (cs : List Called) (s : State) → Kept s → setting_of s ≡ C → Left C cs s
unfolding left_after turns_of leaves
left_so C [] s k e = record { kept = k; setting = e; moment = refl }
left_so C (c ∷ cs) s k e =
    let r = left_so C cs (left_of (call_of c) s) (left-kept s k (call_of c)) (left-setting s k (call_of c) ∙ e) in
    record { kept = r.kept; setting = r.setting; moment = r.moment }
