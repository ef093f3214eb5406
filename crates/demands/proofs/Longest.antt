-- Every mark of an accepted plan is handed out by some calls (`every-mark-given`). So 'the longest that a campaign writes is 45 bytes' is attained: on the
-- longest plan a request writes 45 bytes, and every smaller buffer is refused there with 2 (`needs-45`).
-- Assumes nothing.
use mathlib.Core.Path.{◌≡◌, refl, sym, ap, subst, ◌∙◌}
use mathlib.Core.Logic.{◌≢◌}
use mathlib.Core.Bool.{Bool, true, false, not, cond, ◌&&◌, true≢false}
use mathlib.Core.List.{List, [], ◌∷◌}
use mathlib.Core.Option.{Option}
use Prim.Native.Nat.{ℕ, zero, suc, ◌+◌, ◌≤◌, ◌<◌}
use native.Mathlib.Nat.{zero-add}
use native.Mathlib.Omega.{arith}
use lib.Dec.{leb, ltb}
use lib.ListN.{length, get_or, replicate, length-replicate}
use Rattle.listing.specs.Limits.{most_legs}
use Rattle.listing.proofs.Numbers.{either, test, below?}
use Rattle.line_format.proofs.Longest.{mark-45}
use Rattle.promise.specs.Plan.{leg_at, rank_at, ranks, number}
use Rattle.promise.specs.Campaign.{Setting, request, report_to, report_of, is_error, is_closing, Answer, movement, seat, mark, the_end, taken, refusal, fit, offer, stands_for, answer}
use Rattle.promise.specs.Campaign as model
use Rattle.promise.specs.Bench.{Act, in_front, acts, is_mark, fresh, marks_met, numbered, planned}
use Rattle.promise.specs.Fitness.{Fit, mark_stands, no_room}
use Rattle.promise.specs.Progress.{calls_to_end}
use Rattle.promise.proofs.Legs.{number-below, length-ranks, ranks-at}
use Rattle.promise.proofs.Marks.{length-numbered}
use Rattle.promise.proofs.Refusals.{refused-so, served}
use Rattle.plans.specs.Grammar.{plan_text}
use Rattle.plans.proofs.Longest.{longest_leg, longest, longest-accepted}
use Rattle.campaign_state.specs.State.{answer_text, width, setting_of, moment_of}
use Rattle.campaign_state.specs.Fitness.{places_fit}
use Rattle.campaign_state.specs.declared.State.{State}
use Rattle.campaign.specs.Calls.{answer_of, left_of}
use Rattle.campaign_reached.specs.Turns.{AcceptedPlan, campaign_of, begun, Called, asks, tells, call_of, turns_of, left_after}
use Rattle.demands.specs.Prompt.{prompt_calls}
use Rattle.campaign_reached.proofs.Kept.{answer-on}
use Rattle.demands.proofs.Three.{demand-left}
use Rattle.campaign_reached.proofs.Reached.{reached-after}
use Rattle.demands.proofs.Ends.{promptly-ends}

-- ---- marks that were met were handed out

-- after some calls from state s a request is answered with the mark x
pub record Given (s : State) (x : ℕ × ℕ) : Type 0 where
  pub calls : List Called
  pub buffer : List ℕ
  pub is : answer_of (request (length buffer)) (left_after calls s) ≡ mark x.0 x.1

-- from the state that a call left, so from the state before
given-later : (c : Called) (s : State) (x : ℕ × ℕ) → Given (left_of (call_of c) s) x → Given s x
unfolding left_after
given-later c s x g = record { calls = c ∷ g.calls; buffer = g.buffer; is = g.is }

-- a report is not answered with a mark
no-mark-heard : (m : Option ℕ) (kind : ℕ) (s : State) (k r : ℕ) → answer_of (report_to m kind) s ≢ mark k r
unfolding answer_of answer
no-mark-heard m kind s k r =
    by (places_fit s) (not (fit (setting_of s) (moment_of s))) (ltb 2 kind) (not (stands_for (setting_of s) m (moment_of s)))
    (is_error (report_of kind) && leb (setting_of s).limit s.errors)
  where
    by : (a b c d e : Bool)
        → cond a (cond b (refusal 15) (cond c (refusal 14) (cond d (refusal 12) (cond e (refusal 16) taken)))) (refusal 15) ≢ mark k r
    by false b c d e x = true≢false (cc)
    by true true c d e x = true≢false (cc)
    by true false true d e x = true≢false (cc)
    by true false false true e x = true≢false (cc)
    by true false false false true x = true≢false (cc)
    by true false false false false x = true≢false (cc)

-- so the call that was answered with one is a request
given-here : (c : Called) (s : State) (k r : ℕ) → answer_of (call_of c) s ≡ mark k r → Given s (k, r)
unfolding left_after
given-here (asks buf) s k r e = record { calls = []; buffer = buf; is = e }
given-here (tells m kind) s k r e = absurd (no-mark-heard m kind s k r e)

-- every mark among xs, repeats struck out, was handed out from s
abbrev AllGiven : State → List Act → Type 0
AllGiven s xs = (again : Bool) (m : ℕ × ℕ) (i : ℕ) → i < length (fresh again m xs) → Given s (get_or (fresh again m xs) i (0, 0))

-- so with one call more
all-given : (c : Called) (s : State) (a : Answer) (xs : List Act) → answer_of (call_of c) s ≡ a → AllGiven (left_of (call_of c) s) xs
    → AllGiven s (in_front (call_of c) a xs)
unfolding fresh
all-given c s (movement o) xs e h again m i l = given-later c s _ (h again m i l)
all-given c s (seat j) xs e h again m i l = given-later c s _ (h again m i l)
all-given c s (mark k r) xs e h again m i l = by (again && is_mark m k r) i l
  where
    by : (b : Bool) (i : ℕ) → i < length (cond b (fresh false (k, r) xs) ((k, r) ∷ fresh false (k, r) xs))
        → Given s (get_or (cond b (fresh false (k, r) xs) ((k, r) ∷ fresh false (k, r) xs)) i (0, 0))
    by true i l = given-later c s _ (h false (k, r) i l)
    by false zero l = given-here c s k r e
    by false (suc i) l = given-later c s _ (h false (k, r) i (omega arith))
all-given c s (the_end k) xs e h again m i l = given-later c s _ (h again m i l)
all-given (asks buf) s taken xs e h again m i l = given-later (asks buf) s _ (h again m i l)
all-given (tells o kind) s taken xs e h again m i l = given-later (tells o kind) s _ (h (not (is_closing (report_of kind))) m i l)
all-given c s (refusal k) xs e h again m i l = given-later c s _ (h again m i l)

given_so : (cs : List Called) (s : State) → AllGiven s (acts (turns_of cs s))
unfolding turns_of acts fresh
given_so [] s = λ again m i l. absurd (omega arith)
given_so (c ∷ cs) s = all-given c s (answer_of (call_of c) s) (acts (turns_of cs (left_of (call_of c) s))) refl (given_so cs (left_of (call_of c) s))

-- ---- every mark of the plan

-- the numbers count on
numbered-at : (k : ℕ) (rs : List ℕ) (i : ℕ) → i < length rs → get_or (numbered k rs) i (0, 0) ≡ (k + i, get_or rs i 0)
unfolding numbered
numbered-at k [] i h = absurd (omega arith)
numbered-at k (r ∷ rs) zero h = ap (λ j. (j, r)) (omega arith)
numbered-at k (r ∷ rs) (suc i) h = numbered-at (suc k) rs i (omega arith) ∙ ap (λ j. (j, get_or rs i 0)) (omega arith)

module _ (P : AcceptedPlan) where
  abbrev C : Setting
  C = campaign_of P

  -- the mark at each step of each leg of an accepted plan is what a request gives after some calls
  pub every-mark-given : (i k : ℕ) → i < length P.plan.legs → k ≤ (leg_at P.plan.legs i).run
      → Given (begun P) (number P.plan.legs i k, rank_at C.family (leg_at P.plan.legs i) k)
  every-mark-given i k h l =
      let zeros : List ℕ = replicate 45 0 in
      let cs = prompt_calls (calls_to_end C) zeros (begun P) in
      let all : marks_met (acts (turns_of cs (begun P))) ≡ planned C =
      (demand-left P cs).marks_all_at_end (promptly-ends P zeros (omega (arith, length-replicate {A = ℕ} 45 0))) in
      let rs = ranks C.family P.plan.legs in
      let n = number P.plan.legs i k in
      let below : n < length rs = omega (arith, number-below P.plan.legs i k h l, length-ranks C.family P.plan.legs) in
      let there : get_or (marks_met (acts (turns_of cs (begun P)))) n (0, 0) ≡ (n, rank_at C.family (leg_at P.plan.legs i) k) =
      ap (λ xs. get_or xs n (0, 0)) all ∙ numbered-at 0 rs n below ∙ ap (λ j. (j, get_or rs n 0)) (zero-add n)
      ∙ ap (λ r. (n, r)) (ranks-at C.family P.plan.legs i k h l) in
      subst (Given (begun P)) there
      (given_so cs (begun P) false (0, 0) n (omega (arith, ap length all, length-numbered 0 rs)))

-- ---- 45 bytes

-- the longest plan, by its text
abbrev pub longest-plan : AcceptedPlan
longest-plan = record { text = plan_text longest; plan = longest; accepts = longest-accepted }

-- the first mark of its last leg
last-leg : number longest.legs 15 0 ≡ 13425219467893531815
unfolding number
last-leg = refl

-- after some calls on a plan the next line has n bytes: a buffer of n is enough, and none of fewer
pub record Needs (P : AcceptedPlan) (n : ℕ) : Type 0 where
  pub calls : List Called
  pub enough : (room : ℕ) → n ≤ room → length (answer_text (answer_of (request room) (left_after calls (begun P)))) ≡ n
  pub fewer : (room : ℕ) → room < n → answer_of (request room) (left_after calls (begun P)) ≡ refusal 2

-- where a request gave a mark, the mark is what is offered
module _ (D : Setting) (m : model.State) (f : Fit D m) (room k r : ℕ) (e : answer D (request room) m ≡ mark k r) where
  none-stands : m.standing ≡ false
  none-stands = either (test m.standing) (λ st. absurd (true≢false (cc (refused-so D m (mark_stands {room = room} f st))))) (λ st. st)

  offered : offer D m ≡ mark k r
  offered =
      either (below? room (D.width (offer D m)))
      (λ less. absurd (true≢false (cc (refused-so D m (no_room {room = room} f none-stands less)))))
      (λ enough. sym (served D m room f none-stands enough) ∙ e)

-- 'The longest that a campaign writes is 45 bytes': the longest plan comes to a line that needs them all
pub needs-45 : Needs longest-plan 45
needs-45 =
    let D = campaign_of longest-plan in
    let g = every-mark-given longest-plan 15 0 (omega (arith, length-replicate most_legs longest_leg)) (omega arith) in
    let s = left_after g.calls (begun longest-plan) in
    let R = reached-after longest-plan g.calls in
    let m = moment_of s in
    let said : answer D (request (length g.buffer)) m ≡ mark 13425219467893531815 895014631192902120 =
    sym (answer-on D s R.kept R.setting (request (length g.buffer))) ∙ g.is ∙ ap (λ k. mark k 895014631192902120) last-leg in
    let st = none-stands D m R.fit (length g.buffer) _ _ said in
    let next = offered D m R.fit (length g.buffer) _ _ said in
    let wide : width (offer D m) ≡ 45 = ap width next ∙ mark-45 13425219467893531815 895014631192902120 (omega arith) (omega arith) (omega arith) (omega arith) in
    record {
      calls = g.calls;
      enough = λ room h. ap width (answer-on D s R.kept R.setting (request room) ∙ served D m room R.fit st (omega arith)) ∙ wide;
      fewer = λ room h. answer-on D s R.kept R.setting (request room) ∙ refused-so D m (no_room R.fit st (omega arith));
    }
