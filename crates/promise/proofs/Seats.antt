-- After an error exactly the seats 1 to n come in turn and then the same mark with its number, and no seat comes but so: of every history, and so of any calls.
-- So there are never more than n for each error, and without errors none.
-- Assumes nothing.
use mathlib.Core.Path.{◌≡◌, refl, sym, ap, ap₂, ◌∙◌, subst}
use mathlib.Core.Logic.{◌⊎◌, inl, inr}
use mathlib.Core.Bool.{Bool, true, false, not, cond, ◌&&◌, true≢false, and-eq-true_iff}
use mathlib.Core.List.{List, [], ◌∷◌, ◌++◌}
use mathlib.Core.Option.{Option, none, some}
use Prim.Native.Nat.{ℕ, zero, suc, ◌+◌, ◌-◌, ◌*◌, ◌≤◌, ◌<◌}
use native.Mathlib.Omega.{arith}
use lib.ListN.{length, take}
use lib.Seq.{take-nil}
use borrow.Author.Tests.{ltb-true, ltb-false}
use Rattle.listing.proofs.Numbers.{either, is-cases}
use Rattle.promise.specs.Plan.{Lawful, Accepted}
use Rattle.promise.specs.Campaign.{State, Call, ran, error, gave_up, is_error, is_closing, Answer, seating, seat_after, Setting, first, todo}
use Rattle.promise.specs.Fitness.{Fit}
use Rattle.promise.specs.Bench.{Turn, run, turns, Act, moves, seats, meets, says, in_front, acts, reports}
use Rattle.promise.specs.Seats.{due_after, Reseats, Reseated, seat_due, seats_done, row_from, last_mark, RowAfterErrors}
use Rattle.promise.specs.Onward.{mark_of, Past, Agrees, first_past}
use Rattle.promise.proofs.Tests.{clash, tells-not}
use Rattle.promise.proofs.Marks.{closed-so}
use Rattle.promise.proofs.Steps.{Does, moves-on, seats-on, hands_out, ends, closes, errs, refuses}
use Rattle.promise.proofs.Promise.{agrees_first}
use Rattle.promise.proofs.Steps.{none-to-seat, over-here, fit-first, History, stop, then, history}

-- ---- of every history

-- the state is one where this is due: no jack to seat, and a mark that stands is the last one; or before that mark, with nothing to come but the seats from
-- jack j on, one past the last being the mark
SeatDue : Setting → State → ℕ × ℕ → Option ℕ → Type 0
SeatDue C s m none = (s.to_seat ≡ 0) × (s.standing ≡ true → m ≡ mark_of C s)
SeatDue C s m (some j) =
    (m ≡ mark_of C s) × (s.standing ≡ false) × (todo C s ≡ some [])
    × (((0 < s.to_seat) × (j ≡ s.to_seat)) ⊎ ((s.to_seat ≡ 0) × (j ≡ suc C.family.ports)))

-- nothing has to come
over : (n : ℕ) (m : ℕ × ℕ) (due : Option ℕ) → Reseats n m due []
unfolding Reseats
over n m none = tt
over n m (some j) = tt

-- after the seat that was due the next one is
seat-on : (n i j : ℕ) → j ≡ i → ((0 < seat_after n i) × (suc j ≡ seat_after n i)) ⊎ ((seat_after n i ≡ 0) × (suc j ≡ suc n))
seat-on n i j e =
    either (is-cases i n 0 (suc i)) (λ c. inr (c.1, omega (arith, c.0))) (λ c. inl (omega (arith, c.1), omega (arith, c.1)))

module _ (C : Setting) (lawful : Lawful C.family) (accepted : Accepted C.family C.legs) where
  -- each call gives what is due, and leaves a state where the next is
  gives-due : {s t : State} {c : Call} {a : Answer} (xs : List Act) (m : ℕ × ℕ) (due : Option ℕ) → SeatDue C s m due → Fit C s → Does C s c a t
      → ((l : ℕ × ℕ) (next : Option ℕ) → SeatDue C t l next → Reseats C.family.ports l next xs) → Reseats C.family.ports m due (in_front c a xs)
  unfolding Reseats SeatDue
  gives-due xs m none d f (moves-on o os st en ns w) later = later m none (ns, λ x. clash x st)
  gives-due xs m (some j) d f (moves-on o os st en ns w) later = absurd (true≢false (cc (sym w ∙ d.2)))
  gives-due xs m none d f (seats-on sn) later = absurd (omega (arith, d.0))
  gives-due {s} xs m (some j) d f (seats-on sn) later =
      let at : j ≡ s.to_seat = either d.3 (λ x. x.1) (λ x. absurd (omega (arith, x.0))) in
      (sym at, omega (arith, f.seat), later m (some (suc j)) (d.0, d.1, d.2, seat-on C.family.ports s.to_seat j at))
  gives-due {s} xs m none d f (hands_out st en ns w) later = later (mark_of C s) none (ns, λ x. refl)
  gives-due {s} xs m (some j) d f (hands_out st en ns w) later =
      (either d.3 (λ x. absurd (omega (arith, x.0))) (λ x. x.1), sym d.0, later m none (ns, λ x. d.0))
  gives-due xs m none d f (ends en) later = later m none d
  gives-due xs m (some j) d f (ends en) later = later m (some j) d
  gives-due {s} xs m none d f (closes st cl x) later =
      subst (λ b. Reseats C.family.ports m (due_after b) xs) (sym cl)
      (later m none ((closed-so x).to_seat ∙ none-to-seat s f st, λ y. clash y (closed-so x).standing))
  gives-due xs m (some j) d f (closes st cl x) later = clash st d.1
  gives-due {s} xs m none d f (errs st lt) later =
      later m (some 1) (d.1 st, refl, over-here C lawful accepted s f (f.at_mark st), inl (omega arith, refl))
  gives-due xs m (some j) d f (errs st lt) later = clash st d.1
  gives-due xs m none d f (refuses k n) later = later m none d
  gives-due xs m (some j) d f (refuses k n) later = later m (some j) d

  -- so of every history
  reseats-so : {s : State} {ts : List Turn} (m : ℕ × ℕ) (due : Option ℕ) → SeatDue C s m due → History C s ts → Reseats C.family.ports m due (acts ts)
  unfolding acts
  reseats-so m due d (stop f) = over C.family.ports m due
  reseats-so m due d (then {ts = ts} f x h) = gives-due (acts ts) m due d f x (λ l next e. reseats-so l next e h)

  -- in a fit state what is due is so
  due-here : (s : State) → Fit C s → (b : Past) → Agrees C s b → SeatDue C s b.mark (seat_due C s b)
  unfolding SeatDue
  due-here s f b g = by-seat (seating s) refl
    where
      by-mark : (b' : Bool) → (b.again && not s.standing) ≡ b' → s.to_seat ≡ 0
          → SeatDue C s b.mark (cond b' (some (suc C.family.ports)) none)
      by-mark true e ns =
          let both = (and-eq-true_iff b.again (not s.standing)).0 e in
          let past = g.at_repeat both.0 in
          (past.0, (tells-not s.standing).0 both.1, over-here C lawful accepted s f past.2, inr (ns, refl))
      by-mark false e ns = (ns, λ st. (g.at_mark st).0)

      by-seat : (b' : Bool) → seating s ≡ b' → SeatDue C s b.mark (cond b' (some s.to_seat) (cond (b.again && not s.standing) (some (suc C.family.ports)) none))
      by-seat true e =
          let sn : 0 < s.to_seat = ltb-true 0 s.to_seat e in
          let past = g.at_repeat (g.at_seat sn) in
          (past.0, (f.seated sn).0, over-here C lawful accepted s f past.2, inl (sn, refl))
      by-seat false e = by-mark (b.again && not s.standing) refl (omega (arith, ltb-false 0 s.to_seat e))

  -- so of any calls from any fit state on, with its past
  pub reseats-onward : (s : State) → Fit C s → (b : Past) → Agrees C s b → (cs : List Call)
      → Reseats C.family.ports b.mark (seat_due C s b) (acts (run C cs s))
  reseats-onward s f b g cs = reseats-so b.mark (seat_due C s b) (due-here s f b g) (history C lawful accepted cs s f)

  -- and from the first one: after an error exactly the seats come and then the same mark
  pub reseated : (cs : List Call) → Reseated C.family.ports (acts (turns C cs))
  unfolding first
  reseated cs = reseats-onward (first C) (fit-first C lawful accepted) (first_past C) (agrees_first C lawful accepted) cs

-- ---- how many

-- the seats that are still due
still_due : ℕ → Option ℕ → ℕ
still_due n none = 0
still_due n (some j) = suc n - j

-- never more than n for each error, and those that are due
seats-most : (n : ℕ) (m : ℕ × ℕ) (due : Option ℕ) (xs : List Act) → Reseats n m due xs → seats_done xs ≤ reports is_error xs * n + still_due n due
unfolding Reseats seats_done reports still_due
seats-most n m none [] h = omega arith
seats-most n m (some j) [] h = omega arith
seats-most n m none (moves o ∷ xs) h = seats-most n m none xs h
seats-most n m (some j) (moves o ∷ xs) h = absurd h
seats-most n m none (seats i ∷ xs) h = absurd h
seats-most n m (some j) (seats i ∷ xs) h = omega (arith, h.1, seats-most n m (some (suc j)) xs h.2)
seats-most n m none (meets k r ∷ xs) h = seats-most n (k, r) none xs h
seats-most n m (some j) (meets k r ∷ xs) h = omega (arith, seats-most n m none xs h.2)
seats-most n m none (says ran ∷ xs) h = omega (arith, seats-most n m none xs h)
seats-most n m none (says error ∷ xs) h = omega (arith, seats-most n m (some 1) xs h)
seats-most n m none (says gave_up ∷ xs) h = omega (arith, seats-most n m none xs h)
seats-most n m (some j) (says w ∷ xs) h = absurd h

-- so without errors there are none
pub no-seats : (n : ℕ) (xs : List Act) → Reseated n xs → reports is_error xs ≡ 0 → seats_done xs ≡ 0
unfolding still_due
no-seats n xs h e = omega (arith, seats-most n (0, 0) none xs h, ap (λ k. k * n) e)

-- ---- error by error

-- what is due from jack j on is the row, as far as it goes
row-due : (n k j : ℕ) (m : ℕ × ℕ) (xs : List Act) → j + k ≡ suc n → Reseats n m (some j) xs → take (suc k) xs ≡ take (length xs) (row_from j k m)
unfolding Reseats row_from
row-due n k j m [] e h = refl
row-due n k j m (moves o ∷ xs) e h = absurd h
row-due n zero j m (seats i ∷ xs) e h = absurd (omega (arith, h.1))
row-due n (suc k) j m (seats i ∷ xs) e h =
    ap₂ {C = List Act} (λ x l. seats x ∷ l) h.0 (row-due n k (suc j) m xs (omega arith) h.2)
row-due n zero j m (meets k r ∷ xs) e h =
    ap {B = List Act} (λ (x : ℕ × ℕ). meets x.0 x.1 ∷ []) h.1 ∙ ap {B = List Act} (λ l. meets m.0 m.1 ∷ l) (sym (take-nil (length xs)))
row-due n (suc k) j m (meets i r ∷ xs) e h = absurd (omega (arith, h.0))
row-due n k j m (says w ∷ xs) e h = absurd h

-- so after each error
pub row-after : (n : ℕ) (m : ℕ × ℕ) (due : Option ℕ) (ys zs : List Act) → Reseats n m due (ys ++ says error ∷ zs)
    → take (suc n) zs ≡ take (length zs) (row_from 1 n (last_mark m ys))
unfolding Reseats last_mark
row-after n m none [] zs h = row-due n n 1 m zs (omega arith) h
row-after n m (some j) [] zs h = absurd h
row-after n m none (moves o ∷ ys) zs h = row-after n m none ys zs h
row-after n m (some j) (moves o ∷ ys) zs h = absurd h
row-after n m none (seats i ∷ ys) zs h = absurd h
row-after n m (some j) (seats i ∷ ys) zs h = row-after n m (some (suc j)) ys zs h.2
row-after n m none (meets k r ∷ ys) zs h = row-after n (k, r) none ys zs h
row-after n m (some j) (meets k r ∷ ys) zs h =
    row-after n m none ys zs h.2 ∙ ap (λ x. take (length zs) (row_from 1 n (last_mark x ys))) (sym h.1)
row-after n m none (says w ∷ ys) zs h = row-after n m (due_after (is_closing w)) ys zs h
row-after n m (some j) (says w ∷ ys) zs h = absurd h

-- of a whole campaign
pub row-after-errors : (n : ℕ) (xs : List Act) → Reseated n xs → RowAfterErrors n xs
row-after-errors n xs h ys zs e = row-after n (0, 0) none ys zs (subst (Reseats n (0, 0) none) e h)
