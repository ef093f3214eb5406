-- What a call answers, by where the state stands: the clauses of the model, one by one.
-- Assumes nothing.
use mathlib.Core.Path.{◌≡◌, refl, sym, ap, ◌∙◌}
use mathlib.Core.Bool.{Bool, true, false, cond, ◌&&◌, true≢false}
use mathlib.Core.List.{List, [], ◌∷◌}
use mathlib.Core.Option.{Option, some}
use Prim.Native.Nat.{ℕ, ◌+◌, ◌≤◌, ◌<◌}
use native.Mathlib.Omega.{arith}
use lib.Dec.{eqb}
use borrow.Author.Tests.{lt-ltb, le-ltb, le-leb, lt-leb}
use Rattle.listing.specs.Orders.{Order, InShape}
use Rattle.listing.specs.Limits.{largest64}
use Rattle.listing.specs.Count.{count}
use Rattle.promise.specs.Plan.{Leg}
use Rattle.promise.specs.Campaign as model
use Rattle.promise.specs.Campaign.{Call, request, report_to, report, movement, seat, mark, the_end, taken, refusal}
use Rattle.promise.specs.Campaign.{todo, to_come, rank_of, number_of, closed_marks, offer, stands_for}
use Rattle.promise.specs.Derangements.{derangements}
use Rattle.promise.proofs.Ways.{coming}
use Rattle.promise.proofs.Derangements.{lawful-on}
use Rattle.campaign_way.proofs.Walks.{walk-listed}
use Rattle.campaign_state.specs.State.{setting_of, moment_of}
use Rattle.campaign_state.specs.Fitness.{places_fit, fit}
use Rattle.campaign_state.specs.declared.State.{State}
use Rattle.campaign_state.proofs.Fit.{fit_parts, moment-fit, fit-inside}
use Rattle.campaign_state.proofs.Places.{Sized, number-room}
use Rattle.plan_rules.specs.Rules.{legs_of}
use Rattle.plan_rules.proofs.Marks.{number-before}
use Rattle.promise.proofs.Refusals.{names_same}
use Rattle.promise.proofs.Steps.{due-standing}
use Rattle.campaign.specs.Calls.{answer_of, roomed}

-- a state that is not fit
pub unfit-answer : (c : Call) (s : State) → fit s ≡ false → answer_of c s ≡ refusal 15
unfolding answer_of fit model.answer
unfit-answer c s e = by c (places_fit s) (model.fit (setting_of s) (moment_of s)) refl refl e
  where
    by : (c : Call) (p m : Bool) → places_fit s ≡ p → model.fit (setting_of s) (moment_of s) ≡ m → (p && m) ≡ false
        → cond p (model.answer (setting_of s) c (moment_of s)) (refusal 15) ≡ refusal 15
    by c false m ep em h = refl
    by (request room) true false ep em h = rw em refl
    by (report_to o kind) true false ep em h = rw em refl
    by c true true ep em h = absurd (true≢false h)

module _ (s : State) (f : fit s ≡ true) where
  -- ---- requests

  -- while a mark stands
  pub standing-answer : (room : ℕ) → s.standing ≡ true → answer_of (request room) s ≡ refusal 13
  unfolding answer_of model.answer
  standing-answer room st = rw ((fit_parts s f).0, (fit_parts s f).1, st) refl

  -- else what is offered, where there is room for its line
  offered : (room : ℕ) → s.standing ≡ false → answer_of (request room) s ≡ roomed room (offer (setting_of s) (moment_of s))
  unfolding answer_of model.answer roomed
  offered room st = rw ((fit_parts s f).0, (fit_parts s f).1, st) refl

  -- the end
  pub end-answer : (room : ℕ) → s.standing ≡ false → s.ended ≡ true
      → answer_of (request room) s ≡ roomed room (the_end (closed_marks (setting_of s) (moment_of s)))
  unfolding offer
  end-answer room st en = offered room st ∙ ap (roomed room) (rw en refl)

  -- the next jack to seat
  pub seat-answer : (room : ℕ) → 0 < s.seat → answer_of (request room) s ≡ roomed room (seat s.seat)
  unfolding offer
  seat-answer room sn =
      let m = (moment-fit s f).seated sn in
      offered room m.0 ∙ ap (roomed room) (rw (m.1, lt-ltb 0 s.seat sn) refl)

  -- the mark
  pub mark-answer : (room : ℕ) → s.standing ≡ false → s.ended ≡ false → s.seat ≡ 0 → todo (setting_of s) (moment_of s) ≡ some []
      → answer_of (request room) s ≡ roomed room (mark (closed_marks (setting_of s) (moment_of s)) (rank_of (setting_of s) (moment_of s)))
  unfolding offer
  mark-answer room st en ns w = offered room st ∙ ap (roomed room) (rw (en, ns, w) refl)

  -- the next order
  pub order-answer : (room : ℕ) (o : Order) (os : List Order) → s.standing ≡ false → s.ended ≡ false → s.seat ≡ 0
      → todo (setting_of s) (moment_of s) ≡ some (o ∷ os) → answer_of (request room) s ≡ roomed room (movement o)
  unfolding offer
  order-answer room o os st en ns w = offered room st ∙ ap (roomed room) (rw (en, ns, w) refl)

  -- ---- reports

  pub kind-answer : (o : Option ℕ) (kind : ℕ) → 2 < kind → answer_of (report_to o kind) s ≡ refusal 14
  unfolding answer_of model.answer
  kind-answer o kind h = rw ((fit_parts s f).0, (fit_parts s f).1, lt-ltb 2 kind h) refl

  pub none-answer : (o : Option ℕ) (kind : ℕ) → kind ≤ 2 → stands_for (setting_of s) o (moment_of s) ≡ false → answer_of (report_to o kind) s ≡ refusal 12
  unfolding answer_of model.answer
  none-answer o kind h st = rw ((fit_parts s f).0, (fit_parts s f).1, le-ltb 2 kind h, st) refl

  pub full-answer : s.standing ≡ true → 65535 ≤ s.errors → answer_of (report 1) s ≡ refusal 16
  unfolding answer_of model.answer
  full-answer st h = rw ((fit_parts s f).0, (fit_parts s f).1, st, le-leb 65535 s.errors h) refl

  pub error-answer : s.standing ≡ true → s.errors < 65535 → answer_of (report 1) s ≡ taken
  unfolding answer_of model.answer
  error-answer st h = rw ((fit_parts s f).0, (fit_parts s f).1, st, lt-leb 65535 s.errors h) refl

  pub ran-answer : s.standing ≡ true → answer_of (report 0) s ≡ taken
  unfolding answer_of model.answer
  ran-answer st = rw ((fit_parts s f).0, (fit_parts s f).1, st) refl

  pub gave-up-answer : s.standing ≡ true → answer_of (report 2) s ≡ taken
  unfolding answer_of model.answer
  gave-up-answer st = rw ((fit_parts s f).0, (fit_parts s f).1, st) refl

-- ---- reports that name their mark

-- a mark that stands does so for a report that names its number
pub number-stands : (s : State) (m : ℕ) → s.standing ≡ true
    → eqb m (number_of (setting_of s) (moment_of s)) ≡ stands_for (setting_of s) (some m) (moment_of s)
number-stands s m st = ap (λ b. b && eqb m (number_of (setting_of s) (moment_of s))) (sym st)

-- where a mark stands for a report, it is answered as one that names none
pub named-answer : (s : State) (o : Option ℕ) (kind : ℕ) → stands_for (setting_of s) o (moment_of s) ≡ true → answer_of (report_to o kind) s ≡ answer_of (report kind) s
unfolding answer_of
named-answer s o kind e = ap (λ a. cond (places_fit s) a (refusal 15)) (names_same (setting_of s) (moment_of s) o kind e)

-- ---- counts

-- while a mark stands, one more mark can be counted: it is one of the plan's
pub counts-room : (s : State) → Sized s → fit s ≡ true → s.standing ≡ true → s.covered + s.opened < largest64
counts-room s z f st =
    let m = moment-fit s f in
    let I = fit-inside s f in
    omega (arith, due-standing (moment_of s) m st, number-before (legs_of s.plan) s.leg s.step I.leg, number-room s z I)

-- ---- the next jack to seat is of the panel, the next order is in shape

pub seat-below : (s : State) → fit s ≡ true → s.seat ≤ s.plan.ports
unfolding derangements
seat-below s f = (moment-fit s f).seat

-- of the orders still to come the first is in shape on the panel
pub next-shaped : (n : ℕ) → 2 ≤ n → (l : Leg) (k : ℕ) (q : List ℕ) (o : Order) (os : List Order) → l.start < count n
    → to_come (derangements n) l k q ≡ some (o ∷ os) → InShape n o
unfolding derangements
next-shaped n two l k q o os h e =
    (coming (derangements n) (lawful-on n two) l k (λ i b. walk-listed n two l.start l.back i h) q (o ∷ os) e).shaped.0
