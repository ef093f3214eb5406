-- Arcs in a list: which of them a rank lies on, the least of them by a measure, and their order.
-- Assumes nothing.
use mathlib.Core.Path.{◌≡◌, refl, sym, ap, ap₂}
use mathlib.Core.Logic.{◌⊎◌, inl, inr}
use mathlib.Core.Bool.{false}
use mathlib.Core.List.{List, [], ◌∷◌}
use Prim.Native.Nat.{ℕ, suc, ◌≤◌}
use native.Mathlib.Omega.{arith}
use lib.Dec.{ltb}
use Rattle.listing.proofs.Numbers.{either, below?}
use Rattle.promise.proofs.Tests.{Tells, clash, tells-or, tells-ltb}
use Rattle.promise_arcs.specs.Circle.{ahead}
use Rattle.promise_arcs.specs.Gaps.{Arc, On, In, Rising}
use Rattle.promise_arcs.specs.Finding.{on_some}

-- ---- on one of the arcs

-- a rank passes the test exactly if it lies on one of the arcs
pub tells-on : (c : ℕ) (As : List Arc) (r : ℕ) → Tells (on_some c As r) ((A : Arc) × In A As × On c A r)
unfolding on_some
tells-on c [] r = (λ e. clash e refl, λ w. absurd w.1)
tells-on c (A ∷ As) r =
    let t = tells-or _ _ (tells-ltb (ahead c A.first r) A.many) (tells-on c As r) in (
      λ e. either (t.0 e) (λ o. (A, inl refl, o)) (λ w. (w.0, inr w.1, w.2)),
      λ w. t.1 (either w.1 (λ e. inl (rw e at w.2)) (λ i. inr (w.0, i, w.2))),
    )

-- a rank that is on none is past each, seen from its first rank
pub off-each : (c : ℕ) (As : List Arc) (r : ℕ) (A : Arc) → In A As → on_some c As r ≡ false → A.many ≤ ahead c A.first r
off-each c As r A i h = either (below? (ahead c A.first r) A.many) (λ l. clash ((tells-on c As r).1 (A, i, l)) h) (λ l. l)

-- ---- the least by a measure

pub least : (f : Arc → ℕ) (A : Arc) (As : List Arc) → (B : Arc) × In B (A ∷ As) × ((D : Arc) → In D (A ∷ As) → f B ≤ f D)
least f A [] = (A, inl refl, λ D i. either i (λ e. rw e (omega arith)) absurd)
least f A (B ∷ Bs) =
    let w : (X : Arc) × In X (B ∷ Bs) × ((D : Arc) → In D (B ∷ Bs) → f X ≤ f D) = least f B Bs in
    either (below? (f A) (f w.0))
    (λ l. (A, inl refl, λ D i. either i (λ e. rw e (omega arith)) (λ j. omega (arith, w.2 D j))))
    (λ l. (w.0, inr w.1, λ D i. either i (λ e. rw e (omega arith)) (λ j. w.2 D j)))

-- ---- rising arcs

-- each begins from the lower end on
pub rising-in : (lo : ℕ) (As : List Arc) → Rising lo As → (A : Arc) → In A As → lo ≤ A.first
rising-in lo [] h A i = absurd i
rising-in lo (B ∷ Bs) h A (inl e) = rw e h.0
rising-in lo (B ∷ Bs) h A (inr i) = omega (arith, h.0, rising-in (suc B.first) Bs h.1 A i)

-- rising arcs with the same members are the same
pub rising-only : (lo mo : ℕ) (As Bs : List Arc) → Rising lo As → Rising mo Bs → ((X : Arc) → In X As → In X Bs) → ((X : Arc) → In X Bs → In X As) → As ≡ Bs
rising-only lo mo [] [] a b f g = refl
rising-only lo mo [] (B ∷ Bs) a b f g = absurd (g B (inl refl))
rising-only lo mo (A ∷ As) [] a b f g = absurd (f A (inl refl))
rising-only lo mo (A ∷ As) (B ∷ Bs) a b f g =
    let same : A ≡ B =
    either (f A (inl refl)) (λ e. e) (λ i.
    either (g B (inl refl)) (λ e. sym e) (λ j.
    absurd (omega (arith, rising-in (suc B.first) Bs b.1 A i, rising-in (suc A.first) As a.1 B j)))) in
    let firsts : A.first ≡ B.first = ap (λ (X : Arc). X.first) same in
    ap₂ {C = List Arc} (λ X Xs. X ∷ Xs) same
    (rising-only (suc A.first) (suc B.first) As Bs a.1 b.1
    (λ X i. either (f X (inr i)) (λ e. absurd (omega (arith, rising-in (suc A.first) As a.1 X i, ap (λ (Y : Arc). Y.first) e))) (λ j. j))
    (λ X i. either (g X (inr i)) (λ e. absurd (omega (arith, rising-in (suc B.first) Bs b.1 X i, ap (λ (Y : Arc). Y.first) e))) (λ j. j)))
