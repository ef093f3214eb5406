-- Every order, seat, mark and closing report brings the end nearer, and an error puts it off by one mark and a seat for each jack: so calls that are not
-- refused reach the end, after callsToEnd of them and ports plus two more for each error.
-- Assumes nothing.
use mathlib.Core.Path.{◌≡◌, refl, sym, ap, ◌∙◌, subst}
use mathlib.Core.Logic.{◌≢◌}
use mathlib.Core.Bool.{Bool, true, false, cond, true≢false}
use mathlib.Core.List.{List, [], ◌∷◌}
use mathlib.Core.Option.{Option, some}
use Prim.Native.Nat.{ℕ, zero, suc, ◌+◌, ◌-◌, ◌*◌, ◌≤◌, ◌<◌}
use native.Mathlib.Omega.{arith}
use lib.ListN.{length}
use Rattle.listing.specs.Numbers.{Among}
use Rattle.listing.specs.Orders.{Order, carry}
use Rattle.listing.proofs.Numbers.{either, test, is-cases}
use Rattle.promise.specs.Plan.{Lawful, Accepted, marks, number}
use Rattle.promise.specs.Campaign.{State, with_panel, with_mark, with_seat, Call, request, report, report_of, is_error, tick, tallied, Answer, movement}
use Rattle.promise.specs.Campaign.{seat, mark, the_end, taken, refusal, seat_after, Setting, first, here, number_of, closed_marks, todo, offer, answer, after}
use Rattle.promise.specs.Fitness.{Fit}
use Rattle.promise.specs.Bench.{Turn, run, leaves, turns, left_by, Act, in_front, acts, reports}
use Rattle.promise.specs.Onward.{newest}
use Rattle.promise.specs.Progress.{per_mark, calls_to_end, per_error, seats_left, how_many, work, brought_on, Unrefused, due_call, promptly}
use Rattle.promise.proofs.Tests.{clash}
use Rattle.promise.proofs.Legs.{number-below, number-first}
use Rattle.promise.proofs.Ways.{way-found}
use Rattle.promise.proofs.Steps.{Closes, moves-on, seats-on, hands_out, ends, closes}
use Rattle.promise.proofs.Steps.{errs, refuses, does-so, erred_on, not-ended, none-to-seat, closing-error, coming-here, over-here, step-on}
use Rattle.promise.proofs.Steps.{fit-first, fit-after, History, stop, then, fit-start, fit-last, history}
use Rattle.promise.proofs.Refusals.{offered-so, no-refusal, served, ran-taken}
use Rattle.promise.proofs.Marks.{closed-so, new_by, new-closed}
use Rattle.promise.proofs.Tallies.{error-counts, counted-so}

-- the work by its parts
work-by : (C : Setting) (s : State) (en st : Bool) (o : Option (List Order)) (j : ℕ) → s.ended ≡ en → s.standing ≡ st → todo C s ≡ o → s.to_seat ≡ j
    → work C s ≡ cond en 0 ((marks C.legs - suc (number_of C s)) * per_mark C + (cond st 1 (2 + how_many o) + seats_left C.family.ports j))
unfolding work
work-by C s en st o j e f g h =
    let rest : ℕ = (marks C.legs - suc (number_of C s)) * per_mark C in
    let seats : ℕ = seats_left C.family.ports s.to_seat in
    ap (λ b. cond b 0 (rest + (cond s.standing 1 (2 + how_many (todo C s)) + seats))) e
    ∙ ap (λ b. cond en 0 (rest + (cond b 1 (2 + how_many (todo C s)) + seats))) f
    ∙ ap (λ x. cond en 0 (rest + (cond st 1 (2 + how_many x) + seats))) g
    ∙ ap (λ x. cond en 0 (rest + (cond st 1 (2 + how_many o) + seats_left C.family.ports x))) h

-- a seat leaves one seat less
fewer-seats : (n j : ℕ) → Among n j → seats_left n j ≡ suc (seats_left n (seat_after n j))
fewer-seats n zero h = absurd (omega arith)
fewer-seats n (suc j) h =
    either (is-cases (suc j) n 0 (suc (suc j)))
    (λ c. omega (arith, c.0, ap (seats_left n) c.1))
    (λ c. omega (arith, c.0, ap (seats_left n) c.1))

-- where one mark less is left after this one, what it takes is at most what a mark takes
one_less : (r r' p len w : ℕ) → r ≡ suc r' → len ≤ p → w ≡ r' * (2 + p) + (2 + len) → w ≤ r * (2 + p)
one_less r r' p len w e l f = rw (e, f) (omega arith)

-- fewer errors cost less
times-most : (a b p : ℕ) → a ≤ b → a * p ≤ b * p
times-most a b p h =
    let all : a + (b - a) ≡ b = omega arith in
    subst (λ k. a * p ≤ k * p) all (omega arith)

-- as many turns as calls
length_run : (C : Setting) (cs : List Call) (s : State) → length (run C cs s) ≡ length cs
unfolding run
length_run C [] s = refl
length_run C (c ∷ cs) s = ap suc (length_run C cs (after C c (answer C c s) s))

-- as many calls as asked for
length-promptly : (C : Setting) (n : ℕ) (s : State) → length (promptly C n s) ≡ n
unfolding promptly
length-promptly C zero s = refl
length-promptly C (suc n) s = ap suc (length-promptly C n (after C (due_call C s) (answer C (due_call C s) s) s))

-- a call that is due reports no error
no-error : (b : Bool) (room : ℕ) (a : Answer) (xs : List Act) → reports is_error (in_front (cond b (report 0) (request room)) a xs) ≡ reports is_error xs
unfolding reports
no-error b room (movement o) xs = refl
no-error b room (seat j) xs = refl
no-error b room (mark k r) xs = refl
no-error b room (the_end k) xs = refl
no-error true room taken xs = omega arith
no-error false room taken xs = refl
no-error b room (refusal k) xs = refl

-- so none of them does
due-errors : (C : Setting) (n : ℕ) (s : State) → reports is_error (acts (run C (promptly C n s) s)) ≡ 0
unfolding promptly run acts due_call reports
due-errors C zero s = refl
due-errors C (suc n) s =
    let t : State = after C (due_call C s) (answer C (due_call C s) s) s in
    no-error s.standing (C.width (offer C s)) (answer C (due_call C s) s) (acts (run C (promptly C n t) t)) ∙ due-errors C n t

module _ (C : Setting) (lawful : Lawful C.family) (accepted : Accepted C.family C.legs) where
  -- the work before a mark that is not handed out yet
  work-open : (t : State) → Fit C t → t.ended ≡ false → t.standing ≡ false → (vs : List Order) × (length vs ≤ C.family.ports - 1)
      × (work C t ≡ (marks C.legs - suc (number_of C t)) * per_mark C + (2 + length vs) + seats_left C.family.ports t.to_seat)
  work-open t f en st =
      let w : (vs : List Order) × (todo C t ≡ some vs) = way-found C.family (here C t) t.step t.panel (f.between st en) in
      (w.0, (coming-here C lawful accepted t f w.0 w.1).few, work-by C t false false (some w.0) t.to_seat en st w.1 refl ∙ omega arith)

  -- after closing a mark no more is left than the marks after it take
  work_closed : {x t : State} → Closes C x t → x.to_seat ≡ 0 → Fit C t → work C t ≤ (marks C.legs - suc (number_of C x)) * per_mark C
  unfolding newest
  work_closed {x} {t} c ns f =
      let st : t.standing ≡ false = (closed-so c).standing in
      either (test t.ended) (λ en. omega (arith, work-by C t true false (todo C t) t.to_seat en st refl refl)) (λ en.
      let next : number_of C t ≡ suc (number_of C x) = sym (new_by C t false false false en st) ∙ new-closed c in
      let w = work-open t f en st in
      one_less (marks C.legs - suc (number_of C x)) (marks C.legs - suc (number_of C t)) (C.family.ports - 1) (length w.0) (work C t)
      (omega (arith, number-below C.legs t.leg t.step f.leg f.step)) w.1
      (omega (arith, w.2, ap (seats_left C.family.ports) ((closed-so c).to_seat ∙ ns))))

  -- ---- what each step does to the work

  -- an order leaves less
  pub work-moved : (s : State) → Fit C s → (o : Order) (os : List Order) → s.standing ≡ false → s.ended ≡ false → todo C s ≡ some (o ∷ os)
      → work C (with_panel (carry o s.panel) s) < work C s
  work-moved s f o os st en w =
      let t : State = with_panel (carry o s.panel) s in
      omega (
        arith,
        work-by C s false false (some (o ∷ os)) s.to_seat en st w refl,
        work-by C t false false (some os) s.to_seat en st (step-on C lawful accepted s f o os w) refl,
      )

  -- a seat leaves one less
  pub work-seated : (s : State) → Fit C s → 0 < s.to_seat → suc (work C (with_seat (seat_after C.family.ports s.to_seat) s)) ≡ work C s
  work-seated s f sn =
      let t : State = with_seat (seat_after C.family.ports s.to_seat) s in
      let en : s.ended ≡ false = (f.seated sn).1 in
      omega (
        arith,
        work-by C s false s.standing (todo C s) s.to_seat en refl refl refl,
        work-by C t false s.standing (todo C s) t.to_seat en refl refl refl,
        fewer-seats C.family.ports s.to_seat (sn, f.seat),
      )

  -- a mark leaves less
  pub work-marked : (s : State) → s.standing ≡ false → s.ended ≡ false → todo C s ≡ some [] → work C (with_mark true s) < work C s
  work-marked s st en w =
      omega (arith, work-by C s false false (some []) s.to_seat en st w refl, work-by C (with_mark true s) false true (some []) s.to_seat en refl w refl)

  -- closing a mark leaves less
  pub work-closing : (s t : State) (kind : ℕ) → Fit C s → s.standing ≡ true → Closes C (tallied (report_of kind) s) t → Fit C t → work C t < work C s
  work-closing s t kind f st x g =
      omega (arith, work-by C s false true (todo C s) s.to_seat (not-ended s f st) st refl refl, work_closed x (none-to-seat s f st) g)

  -- an error puts the mark off: the mark once more, and a seat for each jack
  pub work-erred : (s : State) → Fit C s → s.standing ≡ true → work C (erred_on s) ≡ work C s + suc C.family.ports
  work-erred s f st =
      let en : s.ended ≡ false = not-ended s f st in
      let over : todo C s ≡ some [] = over-here C lawful accepted s f (f.at_mark st) in
      omega (arith, work-by C s false true (some []) 0 en st over (none-to-seat s f st), work-by C (erred_on s) false false (some []) 1 en refl over refl)

  -- a fit state's work is at most what the marks that are not closed take, and the seats that are left
  pub work-most : (s : State) → Fit C s → work C s ≤ (marks C.legs - closed_marks C s) * per_mark C + seats_left C.family.ports s.to_seat
  work-most s f =
      either (test s.ended) (λ en. omega (arith, work-by C s true s.standing (todo C s) s.to_seat en refl refl refl)) (λ en.
      either (test s.standing) (λ st. omega (arith, work-by C s false true (todo C s) s.to_seat en st refl refl, at_most en 0 (omega arith))) (λ st.
      let w = work-open s f en st in
      omega (arith, w.2, at_most en (length w.0) w.1)))
    where
      one : s.ended ≡ false → marks C.legs - closed_marks C s ≡ suc (marks C.legs - suc (number_of C s))
      one en =
          ap (λ b. marks C.legs - cond b (marks C.legs) (number_of C s)) en
          ∙ omega (arith, number-below C.legs s.leg s.step f.leg f.step)

      at_most : s.ended ≡ false → (len : ℕ) → len ≤ C.family.ports - 1
          → (marks C.legs - suc (number_of C s)) * per_mark C + (2 + len) ≤ (marks C.legs - closed_marks C s) * per_mark C
      at_most en len h =
          one_less (marks C.legs - closed_marks C s) (marks C.legs - suc (number_of C s)) (C.family.ports - 1) len
          ((marks C.legs - suc (number_of C s)) * per_mark C + (2 + len)) (one en) h refl

  -- the first state's work is at most what all marks take
  pub work-first : work C (first C) ≤ calls_to_end C
  unfolding first
  work-first =
      let most : work C (first C) ≤ (marks C.legs - number C.legs 0 0) * per_mark C + 0 = work-most (first C) (fit-first C lawful accepted) in
      subst (λ k. work C (first C) ≤ k * per_mark C) (ap (λ k. marks C.legs - k) (number-first C.legs) ∙ omega arith) (omega arith)

  -- ---- any calls

  -- the turns that bring the campaign on, and the work that is left, are the work at first and what each error costs, or less
  worked : {s : State} {ts : List Turn} → History C s ts → brought_on ts + work C (leaves s ts) ≤ work C s + reports is_error (acts ts) * per_error C
  unfolding brought_on leaves acts reports
  worked (stop f) = omega arith
  worked {s} (then f (moves-on o os st en ns w) h) = omega (arith, worked h, work-moved s f o os st en w)
  worked {s} (then f (hands_out st en ns w) h) = omega (arith, worked h, work-marked s st en w)
  worked {s} (then f (seats-on sn) h) = omega (arith, worked h, work-seated s f sn)
  worked (then f (ends en) h) = omega (arith, worked h)
  worked {s} (then {t = t} f (closes {kind = kind} st cl x) h) =
      omega (arith, worked h, work-closing s t kind f st x (fit-start h), ap tick (closing-error (report_of kind) cl))
  worked {s} (then f (errs st lt) h) = omega (arith, worked h, work-erred s f st)
  worked (then f (refuses k n) h) = omega (arith, worked h)

  -- the end, once shown, stays
  ended-stays : {s : State} {ts : List Turn} → s.ended ≡ true → History C s ts → (leaves s ts).ended ≡ true
  unfolding leaves
  ended-stays e (stop f) = e
  ended-stays e (then f (moves-on o os st en ns w) h) = clash e en
  ended-stays e (then f (hands_out st en ns w) h) = clash e en
  ended-stays e (then f (seats-on sn) h) = clash e (f.seated sn).1
  ended-stays e (then f (ends en) h) = ended-stays e h
  ended-stays {s} e (then f (closes st cl x) h) = clash e (not-ended s f st)
  ended-stays {s} e (then f (errs st lt) h) = clash e (not-ended s f st)
  ended-stays e (then f (refuses k n) h) = ended-stays e h

  -- until the end every call that is not refused brings the campaign on
  all-bring : {s : State} {ts : List Turn} → History C s ts → Unrefused ts → (leaves s ts).ended ≡ false → brought_on ts ≡ length ts
  unfolding Unrefused brought_on leaves
  all-bring (stop f) u e = refl
  all-bring (then f (moves-on o os st en ns w) h) u e = omega (arith, all-bring h u.1 e)
  all-bring (then f (hands_out st en ns w) h) u e = omega (arith, all-bring h u.1 e)
  all-bring (then f (seats-on sn) h) u e = omega (arith, all-bring h u.1 e)
  all-bring (then f (ends en) h) u e = clash (ended-stays en h) e
  all-bring (then f (closes st cl x) h) u e = omega (arith, all-bring h u.1 e)
  all-bring (then f (errs st lt) h) u e = omega (arith, all-bring h u.1 e)
  all-bring (then f (refuses k n) h) u e = absurd (u.0 k refl)

  -- before the end some work is left
  some-work : (s : State) → s.ended ≡ false → 1 ≤ work C s
  some-work s en =
      either (test s.standing)
      (λ st. omega (arith, work-by C s false true (todo C s) s.to_seat en st refl refl))
      (λ st. omega (arith, work-by C s false false (todo C s) s.to_seat en st refl refl))

  module _ (s : State) (f : Fit C s) (cs : List Call) where
    -- the turns from any fit state on are a history
    told : History C s (run C cs s)
    told = history C lawful accepted cs s f

    -- there are never more orders, marks and reports taken than the marks that are left take and what each error costs
    pub brought-from : brought_on (run C cs s) ≤ work C s + reports is_error (acts (run C cs s)) * per_error C
    brought-from = omega (arith, worked told)

    -- calls that are not refused reach the end, if they are as many
    pub ends-from : Unrefused (run C cs s) → work C s + reports is_error (acts (run C cs s)) * per_error C ≤ length cs → (leaves s (run C cs s)).ended ≡ true
    ends-from u many =
        either (test (leaves s (run C cs s)).ended) (λ e. e) (λ e.
        absurd (omega (arith, worked told, all-bring told u e, length_run C cs s, some-work (leaves s (run C cs s)) e)))

  module _ (cs : List Call) where
    -- so from the first state on: never more than all marks take and what each error costs
    pub brought-most : brought_on (turns C cs) ≤ calls_to_end C + reports is_error (acts (turns C cs)) * per_error C
    brought-most = omega (arith, brought-from (first C) (fit-first C lawful accepted) cs, work-first)

    -- calls that are not refused reach the end, if they are as many
    pub reaches_end : Unrefused (turns C cs) → calls_to_end C + reports is_error (acts (turns C cs)) * per_error C ≤ length cs → (left_by C cs).ended ≡ true
    reaches_end u many = ends-from (first C) (fit-first C lawful accepted) cs u (omega (arith, work-first))

    -- and since errors stop at the limit, so many calls reach it however many errors are reported
    pub reaches-end-always : Unrefused (turns C cs) → calls_to_end C + C.limit * per_error C ≤ length cs → (left_by C cs).ended ≡ true
    unfolding first
    reaches-end-always u many =
        let h : History C (first C) (turns C cs) = told (first C) (fit-first C lawful accepted) cs in
        let errors : (left_by C cs).errors ≡ reports is_error (acts (turns C cs)) = counted-so C is_error (λ s. s.errors) error-counts h ∙ omega arith in
        let most : reports is_error (acts (turns C cs)) ≤ C.limit = omega (arith, errors, (fit-last h).errors) in
        reaches_end u (omega (arith, times-most (reports is_error (acts (turns C cs))) C.limit (per_error C) most))

  -- ---- calls that are not refused

  -- the call that is due is not refused
  due-answered : (s : State) → Fit C s → (k : ℕ) → answer C (due_call C s) s ≢ refusal k
  unfolding due_call
  due-answered s f k = by-mark s.standing refl
    where
      by-mark : (b : Bool) → s.standing ≡ b → answer C (cond b (report 0) (request (C.width (offer C s)))) s ≢ refusal k
      by-mark true st e = true≢false (cc (ran-taken C s f st))
      by-mark false st e = no-refusal (offered-so C s f st) k (sym (served C s (C.width (offer C s)) f st (omega arith)) ∙ e)

  -- so none of them is
  due-unrefused : (n : ℕ) (s : State) → Fit C s → Unrefused (run C (promptly C n s) s)
  unfolding promptly run Unrefused
  due-unrefused zero s f = tt
  due-unrefused (suc n) s f =
      (due-answered s f, due-unrefused n (after C (due_call C s) (answer C (due_call C s) s) s) (fit-after C lawful accepted f (does-so C s f (due_call C s))))

  -- so a campaign taken up from any fit state, its marks all taken as run, has ended after as many calls as its work
  pub promptly-ends-from : (s : State) → Fit C s → (leaves s (run C (promptly C (work C s) s) s)).ended ≡ true
  promptly-ends-from s f =
      ends-from s f (promptly C (work C s) s) (due-unrefused (work C s) s f) (omega (arith, ap (λ k. k * per_error C) (due-errors C (work C s) s), length-promptly C (work C s) s))

  -- so a campaign whose marks are all taken as run has ended after callsToEnd calls
  pub promptly-ends : (left_by C (promptly C (calls_to_end C) (first C))).ended ≡ true
  promptly-ends =
      reaches_end (promptly C (calls_to_end C) (first C)) (due-unrefused (calls_to_end C) (first C) (fit-first C lawful accepted))
      (omega (arith, ap (λ k. k * per_error C) (due-errors C (calls_to_end C) (first C)), length-promptly C (calls_to_end C) (first C)))
