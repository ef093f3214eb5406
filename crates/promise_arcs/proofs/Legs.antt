-- A plan names exactly the ranks that its legs name at their steps (`tells-named`), and on a circuit those that lie on the arcs of its legs (`plan-arcs`).
-- Assumes nothing.
use mathlib.Core.Path.{◌≡◌, refl, sym, ap, ap₂, ◌∙◌}
use mathlib.Core.Logic.{◌⊎◌, inl, inr}
use mathlib.Core.Bool.{Bool, true, false, ◌||◌}
use mathlib.Core.List.{List, [], ◌∷◌, ◌++◌, map}
use Prim.Native.Nat.{ℕ, zero, suc, ◌+◌, ◌-◌, ◌≤◌, ◌<◌}
use native.Mathlib.Omega.{arith}
use lib.Dec.{eqb, ltb}
use lib.ListN.{length, get_or}
use Rattle.listing.proofs.Numbers.{either, test}
use Rattle.promise.specs.Plan.{Family, Circuit, Leg, leg_at, stepped, rank_at, walk, ranks}
use Rattle.promise.proofs.Tests.{clash, Tells, tells-or, tells-eqb, tells-ltb}
use Rattle.promise.proofs.Legs.{length-walk, walk_at}
use Rattle.promise.proofs.Circuit.{Round, round-stepped}
use Rattle.promise_arcs.specs.Circle.{onward, backward, ahead}
use Rattle.promise_arcs.specs.Gaps.{Arc, In}
use Rattle.promise_arcs.specs.Named.{appears, named, AtStep}
use Rattle.promise_arcs.specs.Finding.{first_of, arc_of, on_some}
use Rattle.promise_arcs.proofs.Circle.{onward-cases, backward-cases, ahead-cases, onward-below, backward-below, ahead-onward, onward-ahead}
use Rattle.promise_arcs.proofs.Finding.{Fits}

-- two tests of the same sentence are equal
same_test : (x y : Bool) {P : Type 0} → Tells x P → Tells y P → x ≡ y
same_test true y s t = sym (t.1 (s.0 refl))
same_test false true s t = s.1 (t.0 refl)
same_test false false s t = refl

-- ---- ranks in a list

-- a rank appears exactly if it stands at some place
tells-appears : (xs : List ℕ) (r : ℕ) → Tells (appears xs r) ((i : ℕ) × (i < length xs) × (get_or xs i 0 ≡ r))
unfolding appears
tells-appears [] r = (λ e. clash e refl, λ w. absurd (omega (arith, w.1)))
tells-appears (x ∷ xs) r =
    let t = tells-or _ _ (tells-eqb x r) (tells-appears xs r) in (
      λ e. either (t.0 e) (λ q. (0, omega arith, q)) (λ w. (suc w.0, omega (arith, w.1), w.2)),
      λ w. t.1 (stands w.0 w.1 w.2),
    )
  where
    stands : (i : ℕ) → i < suc (length xs) → get_or (x ∷ xs) i 0 ≡ r → (x ≡ r) ⊎ ((i : ℕ) × (i < length xs) × (get_or xs i 0 ≡ r))
    stands zero h q = inl q
    stands (suc i) h q = inr (i, omega arith, q)

-- of two lists it appears in one or the other
appears-append : (xs ys : List ℕ) (r : ℕ) → appears (xs ++ ys) r ≡ (appears xs r || appears ys r)
unfolding appears
appears-append [] ys r = refl
appears-append (x ∷ xs) ys r = by (eqb x r) (appears-append xs ys r)
  where
    by : (b : Bool) → appears (xs ++ ys) r ≡ (appears xs r || appears ys r) → (b || appears (xs ++ ys) r) ≡ ((b || appears xs r) || appears ys r)
    by true e = refl
    by false e = e

-- a leg names the ranks of its steps
tells-walk : (F : Family) (back : Bool) (s k r : ℕ) → Tells (appears (walk F back s k) r) ((i : ℕ) × (i ≤ k) × (stepped F back s i ≡ r))
tells-walk F back s k r =
    let t = tells-appears (walk F back s k) r in
    let long : length (walk F back s k) ≡ suc k = length-walk F back s k in (
      λ h. let w = t.0 h in let l : w.0 ≤ k = omega (arith, w.1) in (w.0, l, sym (walk_at F back s k w.0 l) ∙ w.2),
      λ w. t.1 (w.0, omega (arith, w.1), walk_at F back s k w.0 w.1 ∙ w.2),
    )

-- a plan names exactly the ranks that its legs name at their steps
pub tells-named : (F : Family) (legs : List Leg) (r : ℕ) → Tells (named F legs r) (AtStep F legs r)
unfolding ranks appears
tells-named F [] r = (λ e. clash e refl, λ w. absurd (omega (arith, w.2)))
tells-named F (l ∷ ls) r =
    let walked = walk F l.back l.start l.run in
    let t = tells-or _ _ (tells-walk F l.back l.start l.run r) (tells-named F ls r) in
    let split = appears-append walked (ranks F ls) r in (
      λ h. either (t.0 (sym split ∙ h)) (λ w. (0, w.0, omega arith, w.1, w.2)) (λ w. (suc w.0, w.1, omega (arith, w.2), w.3, w.4)),
      λ w. split ∙ t.1 (step w.0 w.1 w.2 w.3 w.4),
    )
  where
    step : (i k : ℕ) → i < suc (length ls) → k ≤ (leg_at (l ∷ ls) i).run → rank_at F (leg_at (l ∷ ls) i) k ≡ r
        → ((k : ℕ) × (k ≤ l.run) × (stepped F l.back l.start k ≡ r)) ⊎ AtStep F ls r
    step zero k h e q = inl (k, e, q)
    step (suc i) k h e q = inr (i, k, omega arith, e, q)

-- ---- round a circuit

-- from the last of a leg's ranks behind its start on, the others come
from_last : (c s k i : ℕ) → s < c → k < c → i ≤ k → ahead c (backward c s k) (backward c s i) + i ≡ k
from_last c s k i hs hk l =
    let f : ℕ = backward c s k in
    let r : ℕ = backward c s i in
    let hf : f < c = backward-below c s k hs (omega arith) in
    either (backward-cases c s k (omega arith))
    (λ w. either (backward-cases c s i (omega arith))
    (λ x. either (ahead-cases c f r hf) (λ y. omega arith) (λ y. omega arith))
    (λ x. either (ahead-cases c f r hf) (λ y. omega arith) (λ y. omega arith)))
    (λ w. either (backward-cases c s i (omega arith))
    (λ x. either (ahead-cases c f r hf) (λ y. omega arith) (λ y. omega arith))
    (λ x. either (ahead-cases c f r hf) (λ y. omega arith) (λ y. omega arith)))

-- and every rank that comes so is one of them
to_start : (c s k i r : ℕ) → s < c → k < c → r < c → ahead c (backward c s k) r + i ≡ k → backward c s i ≡ r
to_start c s k i r hs hk hr q =
    let f : ℕ = backward c s k in
    let hf : f < c = backward-below c s k hs (omega arith) in
    let same : ahead c f (backward c s i) ≡ ahead c f r = omega (arith, from_last c s k i hs hk (omega arith)) in
    sym (onward-ahead c f (backward c s i) hf (backward-below c s i hs (omega arith))) ∙ ap (onward c f) same ∙ onward-ahead c f r hf hr

-- every leg's start and run are below the count
abbrev pub Ruled : ℕ → List Leg → Type 0
Ruled c [] = Unit {0}
Ruled c (l ∷ ls) = (l.start < c) × (l.run < c) × Ruled c ls

module _ (F : Family) (circuit : Circuit F) where
  abbrev c : ℕ
  c = F.size

  -- steps of the family are steps round its circuit
  pub stepped-on : (s i : ℕ) → s < c → i < c → stepped F false s i ≡ onward c s i
  unfolding Round
  stepped-on s i hs hi =
      sym (round-stepped F circuit s hs false i (onward c s i) hi (onward-below c s i hs (omega arith))
      (either (onward-cases c s i) (λ w. inl w.1) (λ w. inr w.1)))

  pub stepped-back : (s i : ℕ) → s < c → i < c → stepped F true s i ≡ backward c s i
  unfolding Round
  stepped-back s i hs hi =
      sym (round-stepped F circuit s hs true i (backward c s i) hi (backward-below c s i hs (omega arith))
      (either (backward-cases c s i (omega arith)) (λ w. inl w.1) (λ w. inr w.1)))

  -- so a leg names the ranks of its arc
  leg-arc : (back : Bool) (s k r : ℕ) → s < c → k < c → r < c → appears (walk F back s k) r ≡ ltb (ahead c (first_of c back s k) r) (suc k)
  leg-arc back s k r hs hk hr =
      let t = tells-ltb (ahead c (first_of c back s k) r) (suc k) in
      same_test _ _ (tells-walk F back s k r) (λ h. from back (t.0 h), λ w. t.1 (into back w.0 w.1 w.2))
    where
      from : (back : Bool) → ahead c (first_of c back s k) r < suc k → (i : ℕ) × (i ≤ k) × (stepped F back s i ≡ r)
      from false l = (ahead c s r, omega arith, stepped-on s (ahead c s r) hs (omega arith) ∙ onward-ahead c s r hs hr)
      from true l =
          let i : ℕ = k - ahead c (backward c s k) r in
          (i, omega arith, stepped-back s i hs (omega arith) ∙ to_start c s k i r hs hk hr (omega arith))

      into : (back : Bool) (i : ℕ) → i ≤ k → stepped F back s i ≡ r → ahead c (first_of c back s k) r < suc k
      into false i l q = omega (arith, ap (ahead c s) (sym q ∙ stepped-on s i hs (omega arith)), ahead-onward c s i hs (omega arith))
      into true i l q = omega (arith, ap (ahead c (backward c s k)) (sym q ∙ stepped-back s i hs (omega arith)), from_last c s k i hs hk l)

  -- and a plan those of its legs' arcs
  pub plan-arcs : (legs : List Leg) → Ruled c legs → (r : ℕ) → r < c → named F legs r ≡ on_some c (map (arc_of c) legs) r
  unfolding ranks appears on_some
  plan-arcs [] R r h = refl
  plan-arcs (l ∷ ls) R r h =
      appears-append (walk F l.back l.start l.run) (ranks F ls) r
      ∙ ap₂ (λ x y. x || y) (leg-arc l.back l.start l.run r R.0 R.1 h) (plan-arcs ls R.2 r h)

-- each of which is an arc of the circuit
pub first-listed : (c : ℕ) (back : Bool) (s k : ℕ) → s < c → k < c → first_of c back s k < c
first-listed c false s k hs hk = hs
first-listed c true s k hs hk = backward-below c s k hs (omega arith)

pub arcs-fit : (c : ℕ) (legs : List Leg) → Ruled c legs → (A : Arc) → In A (map (arc_of c) legs) → Fits c A
arcs-fit c [] R A i = absurd i
arcs-fit c (l ∷ ls) R A (inl e) =
    rw e (record { listed = first-listed c l.back l.start l.run R.0 R.1; some = omega arith; most = omega (arith, R.1) })
arcs-fit c (l ∷ ls) R A (inr i) = arcs-fit c ls R.2 A i
