-- The first jack that holds a port, by its position; on a panel every port has its jack, and no other holds it.
-- Assumes nothing.
use mathlib.Core.Path.{◌≡◌, refl, sym, ap, ◌∙◌}
use mathlib.Core.Logic.{◌≢◌}
use mathlib.Core.List.{List}
use mathlib.Core.Bool.{Bool, true, false, cond}
use Prim.Native.Nat.{ℕ, zero, suc, ◌+◌, ◌-◌, ◌≤◌, ◌<◌}
use native.Mathlib.Numerals.{add-one}
use native.Mathlib.Omega.{arith}
use lib.Dec.{eqb, ltb}
use lib.ListN.{length, get_or}
use borrow.Author.Tests.{eqb-true, eqb-false, ltb-false}
use Rattle.std.proofs.Common.{Some, None}
use Rattle.std.specs.List.{position, position_or_len}
use Rattle.std.proofs.lemmas.List.Quantifiers.{position-Some}
use Rattle.std.proofs.lemmas.List.Sums.{fails_before_first}
use Rattle.pattern_check.proofs.Faults.{seek-here, seek-on, seek-none}
use Rattle.listing.specs.Numbers.{Among}
use Rattle.listing.specs.Pattern.{entry, Permutation}
use Rattle.listing.proofs.Numbers.{either, test}
use Rattle.listing.proofs.Onto.{stands}
use Rattle.pattern_check.specs.Faults.{seek}

-- ---- by its position

-- the first d jacks do not hold the port, so those after them decide
passed : (p : List ℕ) (v d a : ℕ) → d ≤ a → ((i : ℕ) → i < d → get_or p i 0 ≢ v) → seek p v 1 a ≡ seek p v (suc d) (a - d)
passed p v zero a h f = let all : a - 0 ≡ a = omega arith in rw all
passed p v (suc d) a h f =
    passed p v d a (omega arith) (λ i l. f i (omega arith)) ∙ (rw add-one at (seek-on p v d a (omega arith) (f d (omega arith))))

pub held-at : (p : List ℕ) (v at : ℕ) → position (λ x. eqb x v) p ≡ Some at → at + 1 ≡ seek p v 1 (length p)
held-at p v at e =
    let first = position-Some (λ x. eqb x v) p at 0 e in
    let here = seek-here p v at (length p) first.0 (eqb-true (get_or p at 0) v first.1) in
    add-one at ∙ sym (passed p v at (length p) (omega (arith, first.0)) (λ i h. eqb-false (get_or p i 0) v (first.2 i h)) ∙ here)

pub held-nowhere : (p : List ℕ) (v : ℕ) → position (λ x. eqb x v) p ≡ None → 0 ≡ seek p v 1 (length p)
held-nowhere p v e =
    let first = position_or_len (λ x. eqb x v) p in
    let none = beyond (ltb first (length p)) refl e in
    sym (passed p v (length p) (length p) (omega arith) (λ i h. eqb-false (get_or p i 0) v (fails_before_first (λ x. eqb x v) p i 0 (omega arith)))
    ∙ seek-none p v (length p) (length p) (omega arith))
  where
    beyond : (b : Bool) → ltb (position_or_len (λ x. eqb x v) p) (length p) ≡ b → cond b (Some (position_or_len (λ x. eqb x v) p)) None ≡ None
        → length p ≤ position_or_len (λ x. eqb x v) p
    beyond true t e = cc
    beyond false t e = ltb-false _ _ t

-- ---- on a panel

-- if one of the jacks holds the port, the first that does is one of them
finds : (p : List ℕ) (v i k a : ℕ) → i ≤ a → a < i + k → entry p a ≡ v
    → (i ≤ seek p v i k) × (seek p v i k < i + k) × (entry p (seek p v i k) ≡ v)
unfolding seek
finds p v i zero a h l e = absurd (omega arith)
finds p v i (suc k) a h l e =
    either (test (eqb (entry p i) v))
    (λ t. rw t (omega arith, omega arith, eqb-true (entry p i) v t))
    (λ t.
    let other : a ≢ i = λ s. eqb-false (entry p i) v t (ap (entry p) (sym s) ∙ e) in
    let later = finds p v (suc i) k a (omega arith) (omega arith) e in
    rw t (omega arith, omega arith, later.2))

module _ (p : List ℕ) (P : Permutation (length p) p) where
  -- every port of a panel has its jack
  pub held : (v : ℕ) → Among (length p) v → Among (length p) (seek p v 1 (length p)) × (entry p (seek p v 1 (length p)) ≡ v)
  held v h =
      let s = stands (length p) p P v h in
      let f = finds p v 1 (length p) s.0 s.1.0 (omega (arith, s.1)) s.2 in
      (omega arith, f.2)

  -- and no other
  pub only-held : (v j : ℕ) → Among (length p) j → entry p j ≡ v → seek p v 1 (length p) ≡ j
  only-held v j h e =
      let f = held v (rw e at (P.ports j h)) in
      P.apart (seek p v 1 (length p)) j f.0 h (f.1 ∙ sym e)
