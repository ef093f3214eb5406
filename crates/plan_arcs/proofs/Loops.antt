-- What the loops over the legs keep. They run from the last leg down, so that what each holds is the definition itself on the arcs from leg i on.
-- Assumes nothing.
use mathlib.Core.Path.{◌≡◌, refl, sym, ap, ◌∙◌}
use mathlib.Core.Bool.{true, false, cond, ◌||◌}
use mathlib.Core.Logic.{inl, inr}
use mathlib.Core.List.{List, [], ◌∷◌, map}
use Prim.Native.Nat.{ℕ, zero, suc, ◌-◌, ◌≤◌, ◌<◌}
use native.Mathlib.Omega.{arith}
use lib.Dec.{leb, ltb}
use lib.ListN.{length, drop, get_or}
use lib.Seq.{drop-cons, drop-length}
use borrow.Author.Tests.{le-ltb, le-leb, lt-leb}
use Rattle.promise.specs.Plan.{Leg, leg_at}
use Rattle.promise_arcs.specs.Circle.{ahead}
use Rattle.promise_arcs.specs.Gaps.{Arc, In}
use Rattle.promise_arcs.specs.Finding.{arc_of, lesser, on_some, nearest, lowest}
use Rattle.promise_arcs.proofs.Members.{tells-on}
use Rattle.plan_rules.proofs.Held.{legs-from}

module _ (c : ℕ) (ls : List Leg) where
  -- the arcs from leg i on
  abbrev pub arcs_from : ℕ → List Arc
  arcs_from i = map (arc_of c) (drop i ls)

  -- past the last leg there are none
  pub arcs-none : (i : ℕ) → i ≡ length ls → arcs_from i ≡ []
  arcs-none i e = ap arcs_from e ∙ ap (map (arc_of c)) (drop-length ls)

  -- the arc of the leg before leg i, and those from leg i on
  arcs-down : (i : ℕ) → 0 < i → i ≤ length ls → arcs_from (i - 1) ≡ arc_of c (leg_at ls (i - 1)) ∷ arcs_from i
  arcs-down i s h =
      let e : suc (i - 1) ≡ i = omega arith in
      ap (map (arc_of c)) (legs-from ls (i - 1) (omega arith)) ∙ ap (λ j. arc_of c (leg_at ls (i - 1)) ∷ arcs_from j) e

  -- each of them is one of all
  arc-in : (i : ℕ) → i < length ls → (A : Arc) → A ≡ arc_of c (leg_at ls i) → In A (map (arc_of c) ls)
  arc-in i h A e = among ls i h refl
    where
      among : (ms : List Leg) (j : ℕ) → j < length ms → leg_at ms j ≡ leg_at ls i → In A (map (arc_of c) ms)
      among [] j l q = absurd (omega arith)
      among (m ∷ ms) zero l q = inl (e ∙ ap (arc_of c) (sym q))
      among (m ∷ ms) (suc j) l q = inr (among ms j (omega arith) q)

  -- past the last leg no rank lies on any
  pub none-on : (i r : ℕ) → i ≡ length ls → on_some c (arcs_from i) r ≡ false
  unfolding on_some
  none-on i r e = ap (λ As. on_some c As r) (arcs-none i e)

  -- and none is near
  pub none-near : (i e : ℕ) → i ≡ length ls → c ≡ nearest c (arcs_from i) e
  unfolding nearest
  none-near i e q = sym (ap (λ As. nearest c As e) (arcs-none i q))

  -- one arc more
  module _ (i : ℕ) (s : 0 < i) (h : i ≤ length ls) (A : Arc) (is : A ≡ arc_of c (leg_at ls (i - 1))) where
    on-some-down : (r : ℕ) → on_some c (arcs_from (i - 1)) r ≡ (ltb (ahead c A.first r) A.many || on_some c (arcs_from i) r)
    unfolding on_some
    on-some-down r = ap (λ As. on_some c As r) (arcs-down i s h) ∙ ap (λ (B : Arc). ltb (ahead c B.first r) B.many || on_some c (arcs_from i) r) (sym is)

    -- a rank on it lies on some, whatever comes before it
    pub one_on : (r : ℕ) → ahead c A.first r < A.many → true ≡ on_some c (map (arc_of c) ls) r
    one_on r l = sym ((tells-on c (map (arc_of c) ls) r).1 (A, arc-in (i - 1) (omega arith) A is, l))

    -- a rank that is not on it, nor on those after it, is on none of them
    pub none_more : (r : ℕ) → A.many ≤ ahead c A.first r → on_some c (arcs_from i) r ≡ false → on_some c (arcs_from (i - 1)) r ≡ false
    none_more r l e = on-some-down r ∙ rw (le-ltb (ahead c A.first r) A.many l) e

    pub nearest-down : (e : ℕ) → nearest c (arcs_from (i - 1)) e ≡ lesser (ahead c e A.first) (nearest c (arcs_from i) e)
    unfolding nearest
    nearest-down e = ap (λ As. nearest c As e) (arcs-down i s h) ∙ ap (λ (B : Arc). lesser (ahead c e B.first) (nearest c (arcs_from i) e)) (sym is)

-- ---- places

-- past the last place there is none
pub lowest-none : (c x : ℕ) (es : List ℕ) (i : ℕ) → i ≡ length es → c ≡ lowest c x (drop i es)
unfolding lowest
lowest-none c x es i e = sym (ap (λ j. lowest c x (drop j es)) e ∙ ap (lowest c x) (drop-length es))

-- one place more
module _ (c x : ℕ) (es : List ℕ) (i : ℕ) (s : 0 < i) (h : i ≤ length es) where
  lowest-down : let e = get_or es (i - 1) 0 in lowest c x (drop (i - 1) es) ≡ cond (leb x e) (lesser e (lowest c x (drop i es))) (lowest c x (drop i es))
  unfolding lowest
  lowest-down =
      let q : suc (i - 1) ≡ i = omega arith in
      ap (lowest c x) (drop-cons es (i - 1) 0 (omega arith) ∙ ap (λ j. get_or es (i - 1) 0 ∷ drop j es) q)

  -- that is from x on
  pub lowest-here : x ≤ get_or es (i - 1) 0 → lesser (get_or es (i - 1) 0) (lowest c x (drop i es)) ≡ lowest c x (drop (i - 1) es)
  lowest-here l = sym (lowest-down ∙ rw (le-leb x (get_or es (i - 1) 0) l))

  -- or is not
  pub lowest-past : get_or es (i - 1) 0 < x → lowest c x (drop i es) ≡ lowest c x (drop (i - 1) es)
  lowest-past l = sym (lowest-down ∙ rw (lt-leb x (get_or es (i - 1) 0) l))
