-- The end is reached: calls that are not refused end every accepted plan after so many of them (`reaches_end`, `reaches-end-always`), and requests with 45
-- bytes of room, each mark reported as run, are such calls (`promptly-ends`). 'A campaign that moves cords for ever without a mark' falls to this.
-- Assumes nothing.
use mathlib.Core.Path.{◌≡◌, refl, sym, ap, subst, ◌∙◌}
use mathlib.Core.Logic.{◌≢◌}
use mathlib.Core.Bool.{Bool, true, false, true≢false}
use mathlib.Core.List.{List, [], ◌∷◌, map}
use Prim.Native.Nat.{ℕ, zero, suc, ◌+◌, ◌*◌, ◌≤◌}
use native.Mathlib.Omega.{arith}
use lib.ListN.{length, length-map}
use Rattle.listing.specs.Count.{count}
use Rattle.promise.specs.Plan.{Leg}
use Rattle.promise.specs.Campaign.{Setting, request, report, is_error, Answer, movement, seat, mark, the_end, taken, refusal, offer}
use Rattle.promise.specs.Bench.{Act, in_front, acts, reports, left_by}
use Rattle.promise.specs.Demand.{FullCircuit}
use Rattle.promise.specs.Derangements.{derangements, most_errors}
use Rattle.promise.specs.Progress.{calls_to_end, per_error, Unrefused}
use Rattle.promise.proofs.Progress as model
use Rattle.promise.proofs.Refusals.{offered-so, no-refusal, served, ran-taken}
use Rattle.campaign_state.specs.State.{width, moment_of}
use Rattle.campaign_state.specs.declared.State.{State}
use Rattle.campaign.specs.Calls.{answer_of, left_of}
use Rattle.campaign_reached.specs.Turns.{AcceptedPlan, campaign_of, begun, Called, call_of, turns_of, left_after}
use Rattle.demands.specs.Prompt.{due_call, prompt_calls}
use Rattle.campaign_reached.proofs.Kept.{answer-on}
use Rattle.campaign_reached.proofs.Begun.{lawful, accepts}
use Rattle.campaign_reached.proofs.Reached.{Reached, reached-first, reached-left}
use Rattle.campaign_reached.proofs.Room.{offer-45}
use Rattle.demands.proofs.Three.{turned, left-moment, all-met}

-- ---- the calls of a bench that takes every mark as run

-- as many as asked for
length-prompt : (n : ℕ) (buf : List ℕ) (s : State) → length (prompt_calls n buf s) ≡ n
unfolding prompt_calls
length-prompt zero buf s = refl
length-prompt (suc n) buf s = ap suc (length-prompt n buf (left_of (call_of (due_call buf s.standing)) s))

-- none of them reports an error
no-error : (b : Bool) (buf : List ℕ) (a : Answer) (xs : List Act) → reports is_error (in_front (call_of (due_call buf b)) a xs) ≡ reports is_error xs
unfolding reports
no-error b buf (movement o) xs = refl
no-error b buf (seat j) xs = refl
no-error b buf (mark k r) xs = refl
no-error b buf (the_end k) xs = refl
no-error true buf taken xs = omega arith
no-error false buf taken xs = refl
no-error b buf (refusal k) xs = refl

no-errors : (n : ℕ) (buf : List ℕ) (s : State) → reports is_error (acts (turns_of (prompt_calls n buf s) s)) ≡ 0
unfolding prompt_calls turns_of acts reports
no-errors zero buf s = refl
no-errors (suc n) buf s =
    let c = call_of (due_call buf s.standing) in
    no-error s.standing buf (answer_of c s) (acts (turns_of (prompt_calls n buf (left_of c s)) (left_of c s))) ∙ no-errors n buf (left_of c s)

-- ---- calls on an accepted plan

module _ (P : AcceptedPlan) where
  abbrev C : Setting
  C = campaign_of P

  module _ (cs : List Called) (unrefused : Unrefused (turns_of cs (begun P))) where
    -- the end of the model is the end of the code
    ended_so : (left_by C (map call_of cs)).ended ≡ true → (left_after cs (begun P)).ended ≡ true
    ended_so h = ap (λ m. m.ended) (left-moment P cs) ∙ h

    -- calls that are not refused reach the end, if they are as many as the plan's marks take, and ports plus two more for each error
    pub reaches_end : calls_to_end C + reports is_error (acts (turns_of cs (begun P))) * per_error C ≤ length cs → (left_after cs (begun P)).ended ≡ true
    reaches_end many =
        let same = turned P cs in
        ended_so (model.reaches_end C (lawful P) (accepts P) (map call_of cs) (subst Unrefused same unrefused)
        (omega (arith, length-map cs call_of, ap (λ ts. reports is_error (acts ts) * per_error C) same)))

    -- and so many reach it however many errors are reported
    pub reaches-end-always : calls_to_end C + most_errors * per_error C ≤ length cs → (left_after cs (begun P)).ended ≡ true
    reaches-end-always many =
        ended_so (model.reaches-end-always C (lawful P) (accepts P) (map call_of cs) (subst Unrefused (turned P cs) unrefused)
        (omega (arith, length-map cs call_of)))

  module _ (buf : List ℕ) (room : 45 ≤ length buf) where
    -- with 45 bytes of room the call that is due is not refused
    due-answered : (s : State) → Reached P s → (b : Bool) → s.standing ≡ b → (k : ℕ) → answer_of (call_of (due_call buf b)) s ≢ refusal k
    due-answered s R true st k x = true≢false (cc (answer-on C s R.kept R.setting (report 0), ran-taken C (moment_of s) R.fit st))
    due-answered s R false st k x =
        let m = moment_of s in
        let few : width (offer C m) ≤ length buf = omega (arith, offer-45 P m R.fit st) in
        let given = answer-on C s R.kept R.setting (request (length buf)) ∙ served C m (length buf) R.fit st few in
        no-refusal (offered-so C m R.fit st) k (sym given ∙ x)

    due-unrefused : (n : ℕ) (s : State) → Reached P s → Unrefused (turns_of (prompt_calls n buf s) s)
    unfolding prompt_calls turns_of Unrefused
    due-unrefused zero s R = tt
    due-unrefused (suc n) s R =
        let c = call_of (due_call buf s.standing) in
        (due-answered s R s.standing refl, due-unrefused n (left_of c s) (reached-left P s R c))

    -- so a bench that takes every mark as run ends every accepted plan, after at most ports plus one calls for each of its marks
    pub promptly-ends : (left_after (prompt_calls (calls_to_end C) buf (begun P)) (begun P)).ended ≡ true
    promptly-ends =
        let cs = prompt_calls (calls_to_end C) buf (begun P) in
        reaches_end cs (due-unrefused (calls_to_end C) (begun P) (reached-first P))
        (omega (arith, ap (λ k. k * per_error C) (no-errors (calls_to_end C) buf (begun P)), length-prompt (calls_to_end C) buf (begun P)))

    -- so on a plan of one full circuit it meets every derangement exactly once
    pub promptly-all-met : (l : Leg) → P.plan.legs ≡ l ∷ [] → suc l.run ≡ count P.plan.ports
        → FullCircuit (derangements P.plan.ports) (acts (turns_of (prompt_calls (calls_to_end C) buf (begun P)) (begun P)))
    promptly-all-met l one full = all-met P (prompt_calls (calls_to_end C) buf (begun P)) l one full promptly-ends
