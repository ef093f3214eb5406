-- A rehearsal stands for a state of its plan's campaign, from buffer to buffer: the state that a filled buffer leaves is the one that the rehearsal left stands
-- for (`stands-for`, `filled_on`), so what is to come (`printed-part`) and what is to go (`printed-less`) go on as they do from state to state.
-- Assumes nothing.
use mathlib.Core.Path.{◌≡◌, refl, sym, ap, subst, ◌∙◌}
use mathlib.Core.Bool.{Bool, true, false, cond, and-eq-true_iff, true≢false}
use mathlib.Core.List.{List, [], ◌∷◌, ◌++◌}
use Prim.Native.Nat.{ℕ, zero, suc, ◌-◌, ◌≤◌, ◌<◌}
use native.Mathlib.Omega.{arith}
use lib.Dec.{ltb}
use lib.IntN.{ℤ}
use lib.ListN.{length}
use Rattle.listing.specs.Limits.{most_legs}
use Rattle.listing.proofs.Numbers.{either, test}
use Rattle.words.specs.Told.{Told, accepted, then}
use Rattle.promise.specs.Plan.{Leg, number}
use Rattle.promise.specs.Campaign as model
use Rattle.promise.specs.Campaign.{Setting, Call, request, report, placed, here, closed, tallied, ran, movement, seat, mark, the_end, taken, refusal}
use Rattle.promise.specs.Fitness.{Fit}
use Rattle.promise.proofs.Steps.{Does, moves-on, seats-on, hands_out, ends, closes, errs, refuses}
use Rattle.plan_rules.specs.Planned.{device}
use Rattle.plan_rules.specs.Places.{held_of, legs_held}
use Rattle.plan_rules.specs.Rules.{legs_of, plan_ruled}
use Rattle.plan_rules.specs.declared.Plan.{Plan}
use Rattle.plans.specs.Calls.{read_plan_of}
use Rattle.campaign_state.specs.State.{width, setting_of, moment_of}
use Rattle.campaign_state.specs.Fitness.{empty_from, places_fit}
use Rattle.campaign_state.specs.declared.State.{State}
use Rattle.campaign.specs.Calls.{answer_of, after, left_of, first_state, begun_of}
use Rattle.campaign_reached.proofs.Reached.{does-there}
use Rattle.printing.specs.Printing.{as_run, sequel, more, Printout, onward, lines_from, lines_in}
use Rattle.printing.specs.Rehearsals.{rehearsal_of, state_with, within, ran_of, state_of}
use Rattle.printing.specs.Answers.{filled_told, PrintedIs}
use Rattle.printing.specs.Progress.{to_go, whole, still_to_come}
use Rattle.printing.specs.declared.Filled.TheVariants.{Lines}
use Rattle.printing.specs.declared.Printed.{Printed}
use Rattle.printing.specs.declared.Rehearsal.{Rehearsal}
use Rattle.printing.proofs.Ran.{closed-ran}
use Rattle.printing.proofs.Lines.{lines-on, lines-off}
use Rattle.printing.proofs.Progress.{Running, running-begun, mark-taken, run_on, filled-run, filled-less}
use Rattle.printing.proofs.Whole.{next-part}

-- a rehearsal is had back from the state that it stands for
pub of-state : (r : Rehearsal) → rehearsal_of (state_of r) ≡ r
of-state r = refl

-- ---- the states that rehearsals stand for

-- no mark stands, none was left open, there was no error and no jack is to be seated
pub record Plain (s : State) : Type 0 where
  pub standing : s.standing ≡ false
  pub opened : s.opened ≡ 0
  pub errors : s.errors ≡ 0
  pub seat : s.seat ≡ 0

-- such a state that calls on an accepted plan leave
pub record Rehearsing (s : State) : Type 0 where
  pub running : Running s
  pub plain : Plain s

-- a plan holds no more legs than it says
legs-few : (k : ℕ) (starts : List ℕ) (runs : List ℤ) → length (legs_held k starts runs) ≤ k
unfolding legs_held
legs-few zero starts runs = omega arith
legs-few (suc k) [] runs = omega arith
legs-few (suc k) (x ∷ starts) [] = omega arith
legs-few (suc k) (x ∷ starts) (z ∷ runs) = omega (arith, legs-few k starts runs)

-- a rehearsal keeps all of such a state: the counts are had back
pub stands-for : (s : State) → Rehearsing s → state_of (rehearsal_of s) ≡ s
unfolding places_fit
stands-for s R =
    let Q = R.running.reached in
    let F : Fit (setting_of s) (moment_of s) = subst (λ D. Fit D (moment_of s)) (sym Q.setting) Q.fit in
    let p = s.plan in
    let rules : plan_ruled device p ≡ true = ((and-eq-true_iff (plan_ruled device p) (empty_from p.ports s.panel)).0 Q.kept.fit).0 in
    let closed-so = closed-ran (rehearsal_of s) rules (omega (arith, F.leg, legs-few p.legs p.starts p.runs)) F.step in
    let counts : ran_of (rehearsal_of s) ≡ s.covered = omega (arith, closed-so, F.counts, R.plain.opened) in
    λ i. record {
      plan = p;
      panel = s.panel;
      leg = s.leg;
      step = s.step;
      covered = counts i;
      opened = sym R.plain.opened i;
      errors = sym R.plain.errors i;
      standing = sym R.plain.standing i;
      ended = s.ended;
      seat = sym R.plain.seat i;
    }

-- ---- the first one

-- no mark is before the first
none_before : (ls : List Leg) → number ls 0 0 ≡ 0
unfolding number
none_before [] = refl
none_before (l ∷ ls) = refl

first-none : (p : Plan) → ran_of (rehearsal_of (first_state p)) ≡ 0
unfolding ran_of
first-none p = by (within (rehearsal_of (first_state p))) (number (legs_of p) 0 0) (none_before (legs_of p))
  where
    by : (b : Bool) (n : ℕ) → n ≡ 0 → cond b n 0 ≡ 0
    by true n e = e
    by false n e = refl

-- what a text is rehearsed as stands for what it begins
pub begun-for : (t : List ℕ) → state_of (rehearsal_of (begun_of t)) ≡ begun_of t
begun-for t = let p = held_of most_legs (read_plan_of t) in ap (λ k. state_with k (rehearsal_of (first_state p))) (first-none p)

pub rehearsing-begun : (t : List ℕ) → ◌≡◌ {A = Told (Unit {0})} (accepted tt) (then (read_plan_of t) (λ p. accepted tt)) → Rehearsing (begun_of t)
rehearsing-begun t e = record { running = running-begun t e; plain = record { standing = refl; opened = refl; errors = refl; seat = refl } }

-- ---- from line to line

-- closing a mark leaves the other counts
closed-keeps : (C : Setting) (m : model.State)
    → ((closed C m).standing ≡ false) × ((closed C m).opened ≡ m.opened) × ((closed C m).errors ≡ m.errors) × ((closed C m).to_seat ≡ m.to_seat)
unfolding closed
closed-keeps C m = by (ltb m.step (here C m).run) (ltb (suc m.leg) (length C.legs))
  where
    by : (a b : Bool)
        → let n = cond a (placed m.leg (suc m.step) false m) (cond b (placed (suc m.leg) 0 false m) (placed m.leg m.step true m)) in
        (n.standing ≡ false) × (n.opened ≡ m.opened) × (n.errors ≡ m.errors) × (n.to_seat ≡ m.to_seat)
    by true b = (refl, refl, refl, refl)
    by false true = (refl, refl, refl, refl)
    by false false = (refl, refl, refl, refl)

-- a mark reported as run leaves them
ran-keeps : (s : State) → s.opened ≡ 0 → s.errors ≡ 0 → s.seat ≡ 0 → answer_of (report 0) s ≡ taken → Plain (left_of (report 0) s)
unfolding left_of model.after model.heard
ran-keeps s o r n e =
    let k = closed-keeps (setting_of s) (tallied ran (moment_of s)) in
    let same : left_of (report 0) s ≡ after (report 0) taken s = ap (λ a. after (report 0) a s) e in
    subst Plain (sym same) (record { standing = k.0; opened = omega (arith, k.1, o); errors = omega (arith, k.2, r); seat = k.3 ∙ n })

-- a seat is given only where a jack is to be seated
seat-given : {C : Setting} {m n : model.State} {c : Call} {a : model.Answer} → Does C m c a n → (j : ℕ) → a ≡ seat j → 0 < m.to_seat
seat-given (moves-on o os st en ns w) j e = absurd (true≢false (cc))
seat-given (seats-on sn) j e = sn
seat-given (hands_out st en ns w) j e = absurd (true≢false (cc))
seat-given (ends en) j e = absurd (true≢false (cc))
seat-given (closes st cl x) j e = absurd (true≢false (cc))
seat-given (errs st lt) j e = absurd (true≢false (cc))
seat-given (refuses k n) j e = absurd (true≢false (cc))

-- a request leaves them, and what stands after it is reported as run: where no jack is to be seated it gives no seat
on-plain : (s : State) → Running s → Plain s → (room : ℕ) (a : model.Answer) → answer_of (request room) s ≡ a → Plain (as_run a (left_of (request room) s))
unfolding left_of model.after
on-plain s R P room (movement o) e = subst Plain (ap (λ a. after (request room) a s) (sym e)) (record { standing = P.standing; opened = P.opened; errors = P.errors; seat = P.seat })
on-plain s R P room (seat j) e = absurd (omega (arith, P.seat, seat-given (does-there R.plan s R.reached (request room)) j e))
on-plain s R P room (mark k r) e =
    let same : left_of (request room) s ≡ after (request room) (mark k r) s = ap (λ a. after (request room) a s) e in
    ran-keeps (left_of (request room) s) (ap (λ x. x.opened) same ∙ P.opened) (ap (λ x. x.errors) same ∙ P.errors) (ap (λ x. x.seat) same ∙ P.seat)
    (mark-taken s R room k r e)
on-plain s R P room (the_end k) e = subst Plain (ap (λ a. after (request room) a s) (sym e)) (record { standing = P.standing; opened = P.opened; errors = P.errors; seat = P.seat })
on-plain s R P room taken e = subst Plain (ap (λ a. after (request room) a s) (sym e)) (record { standing = P.standing; opened = P.opened; errors = P.errors; seat = P.seat })
on-plain s R P room (refusal k) e = subst Plain (ap (λ a. after (request room) a s) (sym e)) (record { standing = P.standing; opened = P.opened; errors = P.errors; seat = P.seat })

lines-plain : (k room : ℕ) (s : State) → Running s → Plain s → Plain (lines_from k room s).left
unfolding lines_from
lines-plain zero room s R P = P
lines-plain (suc k) room s R P =
    let a = answer_of (request room) s in
    let on : Plain (onward room s) = on-plain s R P room a refl in
    either (test (more (sequel a)))
    (λ e.
    subst (λ (x : Printout). Plain x.left) (sym (lines-on room s k e)) (lines-plain k (room - width a) (onward room s) (run_on s R room a refl e).0 on))
    (λ e. subst (λ (x : Printout). Plain x.left) (sym (lines-off room s k e)) on)

-- ---- from buffer to buffer

module _ (room : ℕ) (r : Rehearsal) (R : Rehearsing (state_of r)) where
  -- what a filled buffer leaves is such a state again,
  pub filled-rehearsing : Rehearsing (lines_in room (state_of r)).left
  filled-rehearsing =
      record { running = filled-run room (state_of r) R.running; plain = lines-plain (suc room) room (state_of r) R.running R.plain }

  module _ (p : Printed) (P : PrintedIs room r p) where
    -- the one that the rehearsal left stands for
    pub filled_on : state_of p.rehearsal ≡ (lines_in room (state_of r)).left
    filled_on = ap state_of P.rehearsal ∙ stands-for (lines_in room (state_of r)).left filled-rehearsing

    pub printed-run : Rehearsing (state_of p.rehearsal)
    printed-run = subst Rehearsing (sym filled_on) filled-rehearsing

    -- so less is to go where more is to come
    pub printed-less : (n : ℕ) → p.filled ≡ Lines n → to_go (state_of p.rehearsal) < to_go (state_of r)
    printed-less n e =
        subst (λ x. to_go x < to_go (state_of r)) (sym filled_on) (filled-less room (state_of r) R.running n (sym P.told ∙ ap filled_told e))

    -- and the buffer has the next part of the whole output, the rehearsal left the rest
    pub printed-part : let x = lines_in room (state_of r) in whole (state_of r) ≡ x.text ++ still_to_come (sequel x.stop) (state_of p.rehearsal)
    printed-part =
        let x = lines_in room (state_of r) in
        next-part room (state_of r) R.running ∙ ap (λ y. x.text ++ still_to_come (sequel x.stop) y) (sym filled_on)
