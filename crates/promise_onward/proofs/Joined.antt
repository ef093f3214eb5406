-- A campaign that was cut and taken up again is, turn by turn, one campaign: so demand three holds of the whole as well as of each part.
-- Assumes nothing.
use mathlib.Core.Path.{◌≡◌, refl, sym, ap, ◌∙◌, subst}
use mathlib.Core.Logic.{◌⊎◌, inl, inr}
use mathlib.Core.Bool.{Bool, true, false, cond, ◌&&◌}
use mathlib.Core.List.{List, [], ◌∷◌, ◌++◌}
use Prim.Native.Nat.{ℕ}
use Rattle.listing.proofs.Numbers.{either}
use Rattle.promise.specs.Plan.{Lawful, Accepted}
use Rattle.promise.specs.Campaign.{State, Call, Answer, movement, seat, mark, the_end, taken, refusal, request, report_to, Setting, first, answer}
use Rattle.promise.specs.Bench.{Turn, run, leaves, turns, left_by, Act, moves, seats, meets, says, in_front, acts, bench, is_mark, fresh, marks_met}
use Rattle.promise.specs.Demand.{Demand}
use Rattle.promise.specs.Onward.{Past, Agrees, first_past, and_then, and_all}
use Rattle.promise.proofs.Steps.{History, fit-first, fit-last, history}
use Rattle.promise.proofs.Past.{past-after}
use Rattle.promise.proofs.Promise.{agrees_first, promise}
use Rattle.promise_onward.specs.Resume.{anew, Settled, resumed}
use Rattle.promise_onward.specs.Cuts.{left, past_after, Cut}
use Rattle.promise_onward.proofs.Panels.{anew-settled}
use Rattle.promise_onward.proofs.Cuts.{cut-so}

-- ---- turns one after the other

-- calls after calls: their turns come from the state that the first ones left
run-append : (C : Setting) (cs ds : List Call) (s : State) → run C (cs ++ ds) s ≡ run C cs s ++ run C ds (leaves s (run C cs s))
unfolding run leaves
run-append C [] ds s = refl
run-append C (c ∷ cs) ds s =
    ap {B = List Turn} (λ ts. record { call = c; answered = answer C c s; left = left C c s } ∷ ts) (run-append C cs ds (left C c s))

-- and leave the same state
leaves-append : (s : State) (ts us : List Turn) → leaves s (ts ++ us) ≡ leaves (leaves s ts) us
unfolding leaves
leaves-append s [] us = refl
leaves-append s (t ∷ ts) us = leaves-append t.left ts us

-- an act in front stays in front
front-append : (c : Call) (a : Answer) (xs ys : List Act) → in_front c a (xs ++ ys) ≡ in_front c a xs ++ ys
front-append c (movement o) xs ys = refl
front-append c (seat j) xs ys = refl
front-append c (mark k r) xs ys = refl
front-append c (the_end k) xs ys = refl
front-append (request room) taken xs ys = refl
front-append (report_to o kind) taken xs ys = refl
front-append c (refusal k) xs ys = refl

-- what happens in turns after turns
acts-append : (ts us : List Turn) → acts (ts ++ us) ≡ acts ts ++ acts us
unfolding acts
acts-append [] us = refl
acts-append (t ∷ ts) us = ap (in_front t.call t.answered) (acts-append ts us) ∙ front-append t.call t.answered (acts ts) (acts us)

-- the marks, repeats struck out, are those of the first part and then those of the second with what went before it
fresh-append : (xs ys : List Act) (b : Past) (p : List ℕ)
    → fresh b.again b.mark (xs ++ ys) ≡ fresh b.again b.mark xs ++ fresh (and_all b p xs).again (and_all b p xs).mark ys
unfolding fresh and_all bench
fresh-append [] ys b p = refl
fresh-append (moves o ∷ xs) ys b p = fresh-append xs ys (and_then b p (moves o)) (bench p (moves o ∷ []))
fresh-append (seats j ∷ xs) ys b p = fresh-append xs ys b p
fresh-append (meets k r ∷ xs) ys b p =
    let b' : Past = and_then b p (meets k r) in
    let p' : List ℕ = bench p (meets k r ∷ []) in
    by-repeat (fresh false (k, r) xs) (fresh (and_all b' p' xs).again (and_all b' p' xs).mark ys) (b.again && is_mark b.mark k r) (fresh-append xs ys b' p')
  where
    by-repeat : (ms ns : List (ℕ × ℕ)) (c : Bool) → fresh false (k, r) (xs ++ ys) ≡ ms ++ ns
        → cond c (fresh false (k, r) (xs ++ ys)) ((k, r) ∷ fresh false (k, r) (xs ++ ys)) ≡ cond c ms ((k, r) ∷ ms) ++ ns
    by-repeat ms ns true e = e
    by-repeat ms ns false e = ap {B = List (ℕ × ℕ)} (λ l. (k, r) ∷ l) e
fresh-append (says w ∷ xs) ys b p = fresh-append xs ys (and_then b p (says w)) (bench p (says w ∷ []))

-- ---- calls in two parts, the second on the state that the first left

module _ (C : Setting) (cs ds : List Call) where
  -- they leave what all of them leave
  pub left-joined : leaves (left_by C cs) (run C ds (left_by C cs)) ≡ left_by C (cs ++ ds)
  left-joined = sym (ap (leaves (first C)) (run-append C cs ds (first C)) ∙ leaves-append (first C) (turns C cs) (run C ds (left_by C cs)))

  -- their marks are the marks of all, repeats struck out, across the parts too
  pub marks-joined : marks_met (acts (turns C cs)) ++ fresh (past_after C cs).again (past_after C cs).mark (acts (run C ds (left_by C cs)))
      ≡ marks_met (acts (turns C (cs ++ ds)))
  marks-joined =
      sym (ap (λ ts. marks_met (acts ts)) (run-append C cs ds (first C)) ∙ ap marks_met (acts-append (turns C cs) (run C ds (left_by C cs)))
      ∙ fresh-append (acts (turns C cs)) (acts (run C ds (left_by C cs))) (first_past C) C.family.home)

-- ---- a cut after the calls cs

module _ (C : Setting) (lawful : Lawful C.family) (accepted : Accepted C.family C.legs) (cs : List Call) where
  -- their turns are a history
  told : History C (first C) (turns C cs)
  told = history C lawful accepted cs (first C) (fit-first C lawful accepted)

  -- what happened in them agrees with the state that they left
  pub agrees-left : Agrees C (left_by C cs) (past_after C cs)
  unfolding first
  agrees-left = past-after C lawful accepted (first_past C) (agrees_first C lawful accepted) told

  -- after a cut in the call c that broke no row of seats the turns before and after it are those of a campaign with no cut, in which c was lost or kept. (Of a
  -- row that is broken proofs/Lives.antt speaks.)
  pub cut-joined : (c : Call) (x : State) (q : List ℕ) → Settled (left_by C cs) → Settled (left C c (left_by C cs)) → Cut C c (left_by C cs) x q → (ds : List Call)
      → (turns C cs ++ run C ds (resumed q x) ≡ turns C (cs ++ ds))
      ⊎ (turns C cs ++ (run C (c ∷ []) (left_by C cs) ++ run C ds (resumed q x)) ≡ turns C (cs ++ c ∷ ds))
  unfolding run
  cut-joined c x q a z k ds =
      either (cut-so C lawful accepted c (left_by C cs) (fit-last told) (past_after C cs) agrees-left x q k)
      (λ u. inl (ap (λ y. turns C cs ++ run C ds y) (ap anew u.same ∙ anew-settled (left_by C cs) a) ∙ sym (run-append C cs ds (first C))))
      (λ u. inr (ap (λ y. turns C cs ++ (run C (c ∷ []) (left_by C cs) ++ run C ds y)) (ap anew u.same ∙ anew-settled (left C c (left_by C cs)) z) ∙ sym (run-append C cs (c ∷ ds) (first C))))

  -- so demand three holds of the turns before the cut and after it together
  pub cut-demand : (c : Call) (x : State) (q : List ℕ) → Settled (left_by C cs) → Settled (left C c (left_by C cs)) → Cut C c (left_by C cs) x q → (ds : List Call)
      → Demand C (turns C cs ++ run C ds (resumed q x)) ⊎ Demand C (turns C cs ++ (run C (c ∷ []) (left_by C cs) ++ run C ds (resumed q x)))
  cut-demand c x q a z k ds =
      either (cut-joined c x q a z k ds)
      (λ e. inl (subst (Demand C) (sym e) (promise C lawful accepted (cs ++ ds))))
      (λ e. inr (subst (Demand C) (sym e) (promise C lawful accepted (cs ++ c ∷ ds))))
