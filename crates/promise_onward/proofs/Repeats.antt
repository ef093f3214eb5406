-- What a repeated call does after a power cut. Every call but one that gave an order may be repeated at once: the state comes out the same whether the cut
-- lost it or not, so that nothing is counted twice. Orders need no repeat: the panel tells, even where several were not saved.
-- Assumes nothing.
use mathlib.Core.Path.{◌≡◌, refl, sym, ap, ◌∙◌, subst}
use mathlib.Core.Logic.{◌⊎◌}
use mathlib.Core.Bool.{true, false, cond}
use mathlib.Core.Option.{Option, some}
use mathlib.Core.List.{List}
use Prim.Native.Nat.{ℕ, suc, ◌+◌, ◌≤◌}
use native.Mathlib.Omega.{arith}
use lib.Dec.{ltb}
use Rattle.listing.proofs.Numbers.{either, below?}
use Rattle.promise.specs.Plan.{Lawful, Accepted, marks}
use Rattle.promise.specs.Campaign.{State, with_panel, with_mark, Call, request, report_to, report, report_on, report_of, is_closing}
use Rattle.promise.specs.Campaign.{Answer, movement, seat, mark, the_end, taken, refusal, seating, Setting, todo, stands_for}
use Rattle.promise.specs.Campaign.{next, offer, answer, after}
use Rattle.promise.specs.Fitness.{Fit, Why, kind_above, no_mark, mark_stands}
use Rattle.promise.specs.Bench.{Turn, run, leaves, acts}
use Rattle.promise.specs.Onward.{Past, Agrees, and_all}
use Rattle.promise.proofs.Tests.{fails}
use Rattle.promise.proofs.Refusals.{tells-named, stands-none, refused-so, taken-stands, served, ran-taken}
use Rattle.promise.proofs.Steps.{Does, moves-on, seats-on, hands_out, ends, closes, errs, refuses, does-so, due-standing, History, stop, then, fit-last, history}
use Rattle.promise.proofs.Marks.{closed-so, closing-left}
use Rattle.promise.proofs.Past.{past-after}
use Rattle.promise.proofs.Onward.{onward-fit}
use Rattle.promise_onward.specs.Resume.{TakenUp}
use Rattle.promise_onward.specs.Cuts.{left, SavedFor, OnlyOrders}
use Rattle.promise_onward.proofs.Calls.{Handed, left-fit, shows}

-- a call for whose refusal there is a reason leaves the state
stays : (C : Setting) (t : State) (c : Call) (k : ℕ) → Why C t c k → left C c t ≡ t
unfolding after
stays C t c k w = ap (λ a. after C c a t) (refused-so C t w)

-- a report where no mark stands leaves the state
report-stays : (C : Setting) (t : State) (o : Option ℕ) (kind : ℕ) → Fit C t → t.standing ≡ false → left C (report_to o kind) t ≡ t
report-stays C t o kind f st =
    either (below? 2 kind) (λ h. stays C t (report_to o kind) 14 (kind_above f h))
    (λ h. stays C t (report_to o kind) 12 (no_mark f h (stands-none C t o st)))

-- an answer that is an order for the robot: a movement or a seat
abbrev pub IsOrder : Answer → Type 0
IsOrder (movement o) = Unit {0}
IsOrder (seat j) = Unit {0}
IsOrder (mark k r) = ⊥
IsOrder (the_end k) = ⊥
IsOrder taken = ⊥
IsOrder (refusal k) = ⊥

-- what gave no order, given again on the state that it left, leaves that state
repeated : {C : Setting} {s t : State} {c : Call} {a : Answer} → Does C s c a t → answer C c s ≡ a → ¬ IsOrder a → Fit C t → left C c t ≡ t
unfolding after
repeated (moves-on o os st en ns w) e n f = absurd (n tt)
repeated (seats-on sn) e n f = absurd (n tt)
repeated {C} {s} (hands_out {room = room} st en ns w) e n f = stays C (with_mark true s) (request room) 13 (mark_stands f refl)
repeated {C} {s} {c = c} (ends en) e n f = ap (λ a. after C c a s) e
repeated {C} {t = t} (closes {o = o} {kind = kind} st cl x) e n f = report-stays C t o kind f (closed-so x).standing
repeated {C} {t = t} (errs {o = o} st lt) e n f = report-stays C t o 1 f refl
repeated {C} {s} {c = c} (refuses k x) e n f = ap (λ a. after C c a s) e

module _ (C : Setting) (lawful : Lawful C.family) (accepted : Accepted C.family C.legs) (s : State) (f : Fit C s) where
  -- ---- a call that gave no order

  -- repeated on the saved state x, it leaves the same, whether its state was saved or not
  pub repeat-so : (c : Call) → ¬ IsOrder (answer C c s) → (x : State) → (x ≡ s) ⊎ (x ≡ left C c s) → left C c x ≡ left C c s
  repeat-so c n x h = either h (ap (left C c)) (λ e. ap (left C c) e ∙ repeated (does-so C s f c) refl n (left-fit C lawful accepted s f c))

  -- ---- a report that was taken

  -- where the state after it was saved, any report given again is refused with 12: so it is not counted twice
  pub report-refused : (o : Option ℕ) (kind : ℕ) → answer C (report_to o kind) s ≡ taken → (q : Option ℕ) (again : ℕ) → again ≤ 2
      → answer C (report_to q again) (left C (report_to o kind) s) ≡ refusal 12
  report-refused o kind e q again i =
      let c : Call = report_to o kind in
      refused-so C (left C c s)
      (no_mark (left-fit C lawful accepted s f c) i (stands-none C (left C c s) q (shows C lawful accepted s f c taken e)))

  -- one that names its mark and closes it is refused with 12 however late it is repeated, whatever calls come between: it is not taken for another mark
  pub refused-later : (m kind : ℕ) → answer C (report_on m kind) s ≡ taken → is_closing (report_of kind) ≡ true → (cs : List Call) (again : ℕ) → again ≤ 2
      → let t = left C (report_on m kind) s in answer C (report_on m again) (leaves t (run C cs t)) ≡ refusal 12
  refused-later m kind e cl cs again i =
      let t : State = left C (report_on m kind) s in
      let g : Fit C t = left-fit C lawful accepted s f (report_on m kind) in
      let u : State = leaves t (run C cs t) in
      let h : Fit C u = fit-last (history C lawful accepted cs t g) in
      let st = (tells-named C s m).0 (taken-stands C s f (some m) kind e) in
      let more = (onward-fit C lawful accepted t g cs t.panel refl).closed_counts in
      refused-so C u
      (no_mark h i
      (fails (stands_for C (some m) u) (tells-named C u m)
      (λ x. omega (arith, x.1, due-standing u h x.0, more, closing-left C s f (some m) kind e cl, due-standing s f st.0, st.1))))

  -- ---- a request that gave a mark

  module _ (room k r : ℕ) (e : answer C (request room) s ≡ mark k r) where
    -- the mark is handed out
    handed : Handed C s k r
    handed = shows C lawful accepted s f (request room) (mark k r) e

    -- and is what is offered
    offered : offer C s ≡ mark k r
    unfolding offer
    offered =
        let h : Handed C s k r = handed in
        ap (λ b. cond b (the_end (marks C.legs)) (cond (seating s) (seat s.to_seat) (next C s (todo C s)))) h.ended
        ∙ ap (λ j. cond (ltb 0 j) (seat j) (next C s (todo C s))) h.unseated ∙ ap (next C s) h.over ∙ cc

    -- where the state before it was saved, the same mark is asked again, by any request with room for its line
    pub mark-asked-again : (more : ℕ) → C.width (mark k r) ≤ more → answer C (request more) s ≡ mark k r
    mark-asked-again more h = served C s more f handed.standing (subst (λ a. C.width a ≤ more) (sym offered) h) ∙ offered

    -- where the state after it was saved the mark stands: a request is refused with 13, and the report that it ran is taken
    pub mark-stands : (more : ℕ) → (answer C (request more) (left C (request room) s) ≡ refusal 13) × (answer C (report 0) (left C (request room) s) ≡ taken)
    unfolding after
    mark-stands more =
        let t : State = left C (request room) s in
        let g : Fit C t = left-fit C lawful accepted s f (request room) in
        let st : t.standing ≡ true = ap (λ a. (after C (request room) a s).standing) e in
        (refused-so C t (mark_stands g st), ran-taken C t g st)

-- ---- orders need not be saved one by one

-- where nothing but orders came, the state before is saved for the one that is left: put into it, the panel that is left makes it
pub orders-unsaved : {C : Setting} {s : State} {ts : List Turn} → History C s ts → OnlyOrders (acts ts) → SavedFor (leaves s ts) s
unfolding acts leaves OnlyOrders
orders-unsaved (stop f) h = refl
orders-unsaved (then f (moves-on o os st en ns w) x) h = orders-unsaved x h
orders-unsaved (then f (seats-on sn) x) h = absurd h
orders-unsaved (then f (hands_out st en ns w) x) h = absurd h
orders-unsaved (then f (ends en) x) h = orders-unsaved x h
orders-unsaved (then f (closes st cl y) x) h = absurd h
orders-unsaved (then f (errs st lt) x) h = absurd h
orders-unsaved (then f (refuses k n) x) h = orders-unsaved x h

-- so whichever state of such a row was saved, and after whichever of its orders the robot stopped: the panel decides
pub orders-any-saved : {C : Setting} {s : State} {ts us : List Turn} → History C s ts → OnlyOrders (acts ts) → History C s us → OnlyOrders (acts us)
    → SavedFor (leaves s us) (leaves s ts)
orders-any-saved {s = s} {us = us} x h y i = ap (with_panel (leaves s us).panel) (sym (orders-unsaved x h)) ∙ orders-unsaved y i

-- so after a cut in a row of orders, of which cs were asked for when the state was last saved and ds are carried out, the state after ds is taken up
pub row-taken : (C : Setting) (lawful : Lawful C.family) (accepted : Accepted C.family C.legs) (s : State) → Fit C s → (b : Past) → Agrees C s b
    → (cs ds : List Call) → OnlyOrders (acts (run C cs s)) → OnlyOrders (acts (run C ds s)) → (q : List ℕ) → q ≡ (leaves s (run C ds s)).panel
    → TakenUp C q (leaves s (run C cs s)) (leaves s (run C ds s)) (and_all b s.panel (acts (run C ds s)))
row-taken C lawful accepted s f b g cs ds x y q e =
    let h : History C s (run C cs s) = history C lawful accepted cs s f in
    let k : History C s (run C ds s) = history C lawful accepted ds s f in
    record {
      same = ap (λ p. with_panel p (leaves s (run C cs s))) e ∙ orders-any-saved h x k y;
      fits = fit-last k;
      panel = e;
      past = past-after C lawful accepted b g k;
    }
