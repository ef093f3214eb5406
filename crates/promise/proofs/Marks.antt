-- Clauses a and b of demand three, of every history: every mark meets its pattern, the marks are those of the plan's list, after an error the same mark comes.
-- Assumes nothing.
use mathlib.Core.Path.{◌≡◌, refl, sym, ap, ap₂, ◌∙◌, subst}
use mathlib.Core.Bool.{Bool, true, false, not, cond, ◌&&◌, true≢false}
use mathlib.Core.List.{List, [], ◌∷◌, ◌++◌}
use mathlib.Core.Option.{Option, some}
use Prim.Native.Nat.{ℕ, zero, suc, ◌+◌, ◌<◌}
use native.Mathlib.Omega.{arith}
use lib.Dec.{eqb}
use lib.ListN.{length, get_or, drop}
use lib.Seq.{drop-length}
use Rattle.promise.specs.Plan.{Lawful, Accepted, ranks, marks, number}
use Rattle.promise.specs.Campaign.{State, with_mark, report_to, report_of, is_closing, tallied, error, Answer, taken, Setting}
use Rattle.promise.specs.Campaign.{here, rank_of, number_of, todo, answer, after}
use Rattle.promise.specs.Fitness.{Fit}
use Rattle.promise.specs.Bench.{Turn, leaves, acts, bench, Meets, is_mark, fresh, numbered, planned, Again}
use Rattle.promise.specs.Onward.{mark_of, newest, new_mark}
use Rattle.promise.proofs.Tests.{clash, tells-eqb, tells-and}
use Rattle.promise.proofs.Legs.{number-below, number_step, number-leg, number-last, length-ranks, ranks-at}
use Rattle.promise.proofs.Ways.{way-done}
use Rattle.promise.proofs.Steps.{Closes, to_step, to-leg, to_end, Does, moves-on, seats-on, hands_out, ends, closes}
use Rattle.promise.proofs.Steps.{errs, refuses, does-so, erred_on, not-ended, closing-sum, listed_here, over-here, History, stop, then}

-- closing a mark leaves the panel and the jack to seat as they are and as many marks closed as were counted, and no mark stands
pub record Closed (s t : State) : Type 0 where
  pub panel : t.panel ≡ s.panel
  pub sum : t.covered + t.opened ≡ s.covered + s.opened
  pub standing : t.standing ≡ false
  pub to_seat : t.to_seat ≡ s.to_seat

-- wherever closing leads
pub closed-so : {C : Setting} {s t : State} → Closes C s t → Closed s t
closed-so (to_step a) = record { panel = refl; sum = refl; standing = refl; to_seat = refl }
closed-so (to-leg a b) = record { panel = refl; sum = refl; standing = refl; to_seat = refl }
closed-so (to_end a b) = record { panel = refl; sum = refl; standing = refl; to_seat = refl }

-- after a report that is taken and closes its mark one more is closed
closed-one : {C : Setting} {s t : State} {o : Option ℕ} {kind : ℕ} {a : Answer} → Does C s (report_to o kind) a t → is_closing (report_of kind) ≡ true → a ≡ taken
    → t.covered + t.opened ≡ suc (s.covered + s.opened)
closed-one {s = s} (closes {kind = kind} st cl x) c e = (closed-so x).sum ∙ closing-sum (report_of kind) s cl
closed-one (errs st lt) c e = clash c refl
closed-one (refuses k n) c e = absurd (true≢false (cc))

pub closing-left : (C : Setting) (s : State) → Fit C s → (o : Option ℕ) (kind : ℕ) → answer C (report_to o kind) s ≡ taken → is_closing (report_of kind) ≡ true
    → let t = after C (report_to o kind) (answer C (report_to o kind) s) s in t.covered + t.opened ≡ suc (s.covered + s.opened)
closing-left C s f o kind e c = closed-one (does-so C s f (report_to o kind)) c e

-- ---- the plan's list from one of its marks on

-- from its k-th place on: the k-th first
numbered-at : (j : ℕ) (rs : List ℕ) (k : ℕ) → k < length rs → drop k (numbered j rs) ≡ (j + k, get_or rs k 0) ∷ drop (suc k) (numbered j rs)
unfolding numbered
numbered-at j [] k h = absurd (omega arith)
numbered-at j (r ∷ rs) zero h = ap {B = List (ℕ × ℕ)} (λ z. (z, r) ∷ numbered (suc j) rs) (omega arith)
numbered-at j (r ∷ rs) (suc k) h =
    numbered-at (suc j) rs k (omega arith) ∙ ap {B = List (ℕ × ℕ)} (λ z. (z, get_or rs k 0) ∷ drop (suc k) (numbered (suc j) rs)) (omega arith)

-- numbers make the list no longer
pub length-numbered : (j : ℕ) (rs : List ℕ) → length (numbered j rs) ≡ length rs
unfolding numbered
length-numbered j [] = refl
length-numbered j (r ∷ rs) = ap suc (length-numbered (suc j) rs)

-- from a state's mark on: that mark first
list_at : (C : Setting) (s : State) → Fit C s → drop (number_of C s) (planned C) ≡ mark_of C s ∷ drop (suc (number_of C s)) (planned C)
list_at C s f =
    numbered-at 0 (ranks C.family C.legs) (number_of C s)
    (omega (arith, length-ranks C.family C.legs, number-below C.legs s.leg s.step f.leg f.step))
    ∙ ap₂ {C = List (ℕ × ℕ)} (λ j r. (j, r) ∷ drop (suc (number_of C s)) (planned C)) (omega arith)
    (ranks-at C.family C.legs s.leg s.step f.leg f.step)

-- from the number of all marks on: nothing
pub list_over : (C : Setting) → drop (marks C.legs) (planned C) ≡ []
list_over C =
    ap (λ k. drop k (planned C)) (sym (length-numbered 0 (ranks C.family C.legs) ∙ length-ranks C.family C.legs)) ∙ drop-length (planned C)

-- ---- the next mark that is no repeat

-- its number where it is known whether the end is shown and a mark stands
pub new_by : (C : Setting) (s : State) (again en st : Bool) → s.ended ≡ en → s.standing ≡ st
    → new_mark C s again ≡ newest en st again (marks C.legs) (number_of C s)
new_by C s again en st e f = ap₂ (λ x y. newest x y again (marks C.legs) (number_of C s)) e f

-- closing a mark leads to the number after its own
pub new-closed : {C : Setting} {s t : State} → Closes C s t → new_mark C t false ≡ suc (number_of C s)
unfolding newest
new-closed {C} {s} (to_step a) = number_step C.legs s.leg s.step
new-closed {C} {s} (to-leg a b) = number-leg C.legs s.leg b ∙ ap (λ j. suc (number C.legs s.leg j)) (sym a)
new-closed {C} {s} (to_end a b) = sym (number-last C.legs s.leg b) ∙ ap (λ j. suc (number C.legs s.leg j)) (sym a)

-- the same mark passes the test for repeats
repeats : (m : ℕ × ℕ) (k r : ℕ) → m ≡ (k, r) → is_mark m k r ≡ true
repeats m k r e =
    (tells-and (eqb k m.0) (eqb r m.1) (tells-eqb k m.0) (tells-eqb r m.1)).1
    (sym (ap (λ (x : ℕ × ℕ). x.0) e), sym (ap (λ (x : ℕ × ℕ). x.1) e))

module _ (C : Setting) where
  -- the panel of the bench is the state's
  pub carried-so : {s : State} {ts : List Turn} → History C s ts → bench s.panel (acts ts) ≡ (leaves s ts).panel
  unfolding acts bench leaves
  carried-so (stop f) = refl
  carried-so (then f (moves-on o os st en ns w) h) = carried-so h
  carried-so (then f (hands_out st en ns w) h) = carried-so h
  carried-so (then f (seats-on sn) h) = carried-so h
  carried-so (then f (ends en) h) = carried-so h
  carried-so (then {t = t} {ts = ts} f (closes st cl x) h) = subst (λ p. bench p (acts ts) ≡ (leaves t ts).panel) (closed-so x).panel (carried-so h)
  carried-so (then f (errs st lt) h) = carried-so h
  carried-so (then f (refuses k n) h) = carried-so h

  -- ---- the marks without repeats are what lies between two places of the plan's list (m: the last mark; again: the last report was an error)
  pub between-so : {s : State} {ts : List Turn} (again : Bool) (m : ℕ × ℕ) → (again ≡ true → m ≡ mark_of C s) → (s.standing ≡ true → m ≡ mark_of C s)
      → History C s ts → (b : Bool) × (fresh again m (acts ts) ++ drop (new_mark C (leaves s ts) b) (planned C) ≡ drop (new_mark C s again) (planned C))
  unfolding acts fresh leaves newest
  between-so again m fa fs (stop f) = (again, refl)
  between-so again m fa fs (then f (moves-on o os st en ns w) h) = between-so again m fa fs h
  between-so {s} again m fa fs (then {t = t} {ts = ts} f (hands_out st en ns w) h) = go again fa (between-so false (mark_of C s) (λ x. clash x refl) (λ x. refl) h)
    where
      plan : List (ℕ × ℕ)
      plan = planned C

      others : List (ℕ × ℕ)
      others = fresh false (mark_of C s) (acts ts)

      standing-new : new_mark C t false ≡ suc (number_of C s)
      standing-new = new_by C t false false true en refl

      go : (again : Bool) → (again ≡ true → m ≡ mark_of C s) → (b : Bool) × (others ++ drop (new_mark C (leaves t ts) b) plan ≡ drop (new_mark C t false) plan)
          → (b : Bool) × (cond (again && is_mark m (number_of C s) (rank_of C s)) others (mark_of C s ∷ others) ++ drop (new_mark C (leaves t ts) b) plan
          ≡ drop (new_mark C s again) plan)
      go true fa r = (
        r.0,
        ap (λ b. cond b others (mark_of C s ∷ others) ++ drop (new_mark C (leaves t ts) r.0) plan) (repeats m (number_of C s) (rank_of C s) (fa refl))
            ∙ r.1 ∙ ap (λ k. drop k plan) (standing-new ∙ sym (new_by C s true false false en st)),
      )
      go false fa r = (
        r.0,
        ap {B = List (ℕ × ℕ)} (λ l. mark_of C s ∷ l) (r.1 ∙ ap (λ k. drop k plan) standing-new)
            ∙ sym (list_at C s f) ∙ ap (λ k. drop k plan) (sym (new_by C s false false false en st)),
      )
  between-so again m fa fs (then f (seats-on sn) h) = between-so again m fa fs h
  between-so again m fa fs (then f (ends en) h) = between-so again m fa fs h
  between-so {s} again m fa fs (then {t = t} {ts = ts} f (closes st cl x) h) =
      let r = between-so false m (λ y. clash y refl) (λ y. clash y (closed-so x).standing) h in (
        r.0,
        ap (λ b. fresh (not b) m (acts ts) ++ drop (new_mark C (leaves t ts) r.0) (planned C)) cl
            ∙ r.1 ∙ ap (λ k. drop k (planned C)) (new-closed x ∙ sym (new_by C s again false true (not-ended s f st) st)),
      )
  between-so {s} again m fa fs (then f (errs st lt) h) =
      let r = between-so true m (λ y. fs st) (λ y. clash y refl) h in (
        r.0,
        r.1 ∙ ap (λ k. drop k (planned C))
            (new_by C (erred_on s) true false false (not-ended s f st) refl ∙ sym (new_by C s again false true (not-ended s f st) st)),
      )
  between-so again m fa fs (then f (refuses k n) h) = between-so again m fa fs h

module _ (C : Setting) (lawful : Lawful C.family) (accepted : Accepted C.family C.legs) where
  -- ---- every mark meets the pattern of its rank
  pub meets-so : {s : State} {ts : List Turn} → History C s ts → Meets C.family s.panel (acts ts)
  unfolding acts Meets
  meets-so (stop f) = tt
  meets-so (then f (moves-on o os st en ns w) h) = meets-so h
  meets-so {s} (then f (hands_out st en ns w) h) = (way-done C.family lawful (here C s) s.step (listed_here C lawful accepted s f) s.panel w, meets-so h)
  meets-so (then f (seats-on sn) h) = meets-so h
  meets-so (then f (ends en) h) = meets-so h
  meets-so (then {ts = ts} f (closes st cl x) h) = subst (λ p. Meets C.family p (acts ts)) (closed-so x).panel (meets-so h)
  meets-so (then f (errs st lt) h) = meets-so h
  meets-so (then f (refuses k n) h) = meets-so h

  -- ---- after an error the panel is at the mark's pattern, and the same mark comes with no movement between
  pub again-so : {s : State} {ts : List Turn} (again : Bool) (m : ℕ × ℕ) → (again ≡ true → (m ≡ mark_of C s) × (todo C s ≡ some []))
      → (s.standing ≡ true → m ≡ mark_of C s) → History C s ts → Again again m (acts ts)
  unfolding acts Again
  again-so again m fa fs (stop f) = tt
  again-so {s} again m fa fs (then f (moves-on o os st en ns w) h) = (first-try again fa, again-so again m (λ x. clash x (first-try again fa)) fs h)
    where
      first-try : (again : Bool) → (again ≡ true → (m ≡ mark_of C s) × (todo C s ≡ some [])) → again ≡ false
      first-try true fa = absurd (true≢false (cc (sym w ∙ (fa refl).1)))
      first-try false fa = refl
  again-so {s} again m fa fs (then f (hands_out st en ns w) h) = (λ x. sym (fa x).0, again-so false (mark_of C s) (λ x. clash x refl) (λ x. refl) h)
  again-so again m fa fs (then f (seats-on sn) h) = again-so again m fa fs h
  again-so again m fa fs (then f (ends en) h) = again-so again m fa fs h
  again-so again m fa fs (then {ts = ts} f (closes st cl x) h) =
      subst (λ b. Again (not b) m (acts ts)) (sym cl) (again-so false m (λ y. clash y refl) (λ y. clash y (closed-so x).standing) h)
  again-so {s} again m fa fs (then f (errs st lt) h) =
      again-so true m (λ y. (fs st, over-here C lawful accepted s f (f.at_mark st))) (λ y. clash y refl) h
  again-so again m fa fs (then f (refuses k n) h) = again-so again m fa fs h
