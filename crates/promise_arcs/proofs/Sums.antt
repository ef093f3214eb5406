-- Named ranks and the ranks of the gaps are the whole circuit.
-- Assumes nothing.
use mathlib.Core.Path.{◌≡◌, refl, sym, ap, ◌∙◌}
use mathlib.Core.Logic.{inl, inr}
use mathlib.Core.Bool.{Bool, true, false, ◌||◌}
use mathlib.Core.List.{List, [], ◌∷◌}
use Prim.Native.Nat.{ℕ, zero, suc, ◌+◌, ◌≤◌, ◌<◌}
use native.Mathlib.Omega.{arith}
use lib.Dec.{eqb, ltb}
use borrow.Author.Tests.{eq-eqb, ne_eqb, ltb-true, lt-ltb, le-ltb}
use Rattle.listing.proofs.Numbers.{either, test, below?, same?}
use Rattle.promise.specs.Campaign.{tick}
use Rattle.promise.proofs.Tests.{clash, fails, tells-true}
use Rattle.promise_arcs.specs.Circle.{onward, ahead}
use Rattle.promise_arcs.specs.Gaps.{Arc, On, In, Rising, total, how_many, Gap, Gaps}
use Rattle.promise_arcs.specs.Finding.{on_some}
use Rattle.promise_arcs.proofs.Circle.{onward-below, ahead-onward, onward-ahead}
use Rattle.promise_arcs.proofs.Members.{tells-on, rising-in}
use Rattle.promise_arcs.proofs.Only.{gap-short, by-rank}

-- ---- counting

-- where each rank of one kind is of exactly one of two others, the counts add up
how_many-plus : (a b d : ℕ → Bool) (c : ℕ) → ((r : ℕ) → r < c → tick (a r) ≡ tick (b r) + tick (d r)) → how_many a c ≡ how_many b c + how_many d c
unfolding how_many
how_many-plus a b d zero h = refl
how_many-plus a b d (suc c) h = omega (arith, h c (omega arith), how_many-plus a b d c (λ r l. h r (omega arith)))

-- none, all, and one
how_many-none : (a : ℕ → Bool) (c : ℕ) → ((r : ℕ) → r < c → a r ≡ false) → how_many a c ≡ 0
unfolding how_many
how_many-none a zero h = refl
how_many-none a (suc c) h = omega (arith, ap tick (h c (omega arith)), how_many-none a c (λ r l. h r (omega arith)))

how_many-all : (c : ℕ) → how_many (λ r. true) c ≡ c
unfolding how_many
how_many-all zero = refl
how_many-all (suc c) = omega (arith, how_many-all c)

how_many-one : (x c : ℕ) → x < c → how_many (eqb x) c ≡ 1
unfolding how_many
how_many-one x zero h = absurd (omega arith)
how_many-one x (suc c) h =
    either (same? x c)
    (λ e. omega (arith, ap tick (eq-eqb x c e), how_many-none (eqb x) c (λ r l. ne_eqb x r (omega arith))))
    (λ ne. omega (arith, ap tick (ne_eqb x c ne), how_many-one x c (omega arith)))

-- the ranks of an arc are as many as it says
how_many-arc : (c a m : ℕ) → a < c → m ≤ c → how_many (λ r. ltb (ahead c a r) m) c ≡ m
how_many-arc c a zero h l = how_many-none (λ r. ltb (ahead c a r) 0) c (λ r k. le-ltb (ahead c a r) 0 (omega arith))
how_many-arc c a (suc m) h l =
    let one_more : (r : ℕ) → r < c → tick (ltb (ahead c a r) (suc m)) ≡ tick (ltb (ahead c a r) m) + tick (eqb (onward c a m) r) = λ r k.
    let at : onward c a (ahead c a r) ≡ r = onward-ahead c a r h k in
    let back : ahead c a (onward c a m) ≡ m = ahead-onward c a m h (omega arith) in
    let d : ℕ = ahead c a r in
    either (below? d m)
    (λ x. rw (lt-ltb d (suc m) (omega arith), lt-ltb d m x, ne_eqb (onward c a m) r (λ e. omega (arith, ap (ahead c a) e))))
    (λ x. either (same? d m)
    (λ y. rw (lt-ltb d (suc m) (omega arith), le-ltb d m x, eq-eqb (onward c a m) r (ap (onward c a) (sym y) ∙ at)))
    (λ y. rw (le-ltb d (suc m) (omega arith), le-ltb d m x, ne_eqb (onward c a m) r (λ e. omega (arith, ap (ahead c a) e))))) in
    omega (
      arith,
      how_many-plus (λ r. ltb (ahead c a r) (suc m)) (λ r. ltb (ahead c a r) m) (eqb (onward c a m)) c one_more,
      how_many-arc c a m h (omega arith),
      how_many-one (onward c a m) c (onward-below c a m h (omega arith)),
    )

-- ---- gaps

-- of two tests that are not passed together, either counts as much as both
tick-or : (x y : Bool) → (x ≡ true → y ≡ false) → tick (x || y) ≡ tick x + tick y
tick-or true y h = rw (h refl)
tick-or false y h = omega arith

module _ (c : ℕ) (named : ℕ → Bool) where
  -- rising gaps have as many ranks as they say together
  total-so : (lo : ℕ) (As : List Arc) → ((A : Arc) → In A As → Gap c named A) → Rising lo As → how_many (on_some c As) c ≡ total As
  unfolding total on_some
  total-so lo [] each h = how_many-none (λ r. false) c (λ r l. refl)
  total-so lo (A ∷ As) each h =
      let G : Gap c named A = each A (inl refl) in
      let apart : (r : ℕ) → r < c → ltb (ahead c A.first r) A.many ≡ true → on_some c As r ≡ false = λ r l e.
      fails (on_some c As r) (tells-on c As r) (λ w.
      let same : A ≡ w.0 = by-rank c named A w.0 G (each w.0 (inr w.1)) r l (ltb-true (ahead c A.first r) A.many e) w.2 in
      omega (arith, rising-in (suc A.first) As h.1 w.0 w.1, ap (λ (X : Arc). X.first) same)) in
      omega (
        arith,
        how_many-plus (on_some c (A ∷ As)) (λ r. ltb (ahead c A.first r) A.many) (on_some c As) c
            (λ r l. tick-or (ltb (ahead c A.first r) A.many) (on_some c As r) (apart r l)),
        how_many-arc c A.first A.many G.listed (omega (arith, gap-short c named A G)),
        total-so (suc A.first) As (λ B i. each B (inr i)) h.1,
      )

  -- a rank that is named is on no gap
  pub named-off : (As : List Arc) → Gaps c named As → (r : ℕ) → r < c → named r ≡ true → (A : Arc) → In A As → ¬ On c A r
  named-off As L r l e A i o = clash e ((L.each A i).unnamed r l o)

  -- named ranks and gap ranks together are the whole circuit
  pub whole-circuit : (As : List Arc) → Gaps c named As → how_many named c + total As ≡ c
  whole-circuit As L =
      let one-of : (r : ℕ) → r < c → tick true ≡ tick (named r) + tick (on_some c As r) = λ r l.
      either (test (named r))
      (λ e. rw (e, fails (on_some c As r) (tells-on c As r) (λ w. named-off As L r l e w.0 w.1 w.2)))
      (λ e. rw (e, (tells-on c As r).1 (L.all r l e))) in
      omega (arith, how_many-plus (λ r. true) named (on_some c As) c one-of, how_many-all c, total-so 0 As L.each L.rising)
