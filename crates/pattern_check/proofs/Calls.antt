-- Laws of the check's definition: refusal 1, and the first fault else.
-- Assumes nothing.
use mathlib.Core.Path.{◌≡◌, refl, sym, ap, ◌∙◌}
use mathlib.Core.Bool.{Bool, true, false, not, cond, ◌&&◌, true≢false}
use mathlib.Core.List.{List}
use Prim.Native.Nat.{ℕ, ◌≤◌, ◌<◌}
use lib.Dec.{leb}
use lib.ListN.{length}
use borrow.Author.Tests.{le-leb, lt-leb, leb-true}
use Rattle.words.specs.Told.{Spot, Told, accepted, refused, nowhere}
use Rattle.pattern_check.specs.Faults.{Fault, fault_of, fault_told}
use Rattle.pattern_check.specs.Calls.{in_size, sized, check_as}

-- ---- 2 to `most` ports

pub size-within : (most n : ℕ) {r : Bool} → r ≡ in_size most n → not r ≡ false → (2 ≤ n) × (n ≤ most)
unfolding in_size
size-within most n e h = within (leb 2 n) (leb n most) refl refl (rw e at h)
  where
    within : (low high : Bool) → leb 2 n ≡ low → leb n most ≡ high → not (low && high) ≡ false → (2 ≤ n) × (n ≤ most)
    within true true l k h = (leb-true 2 n l, leb-true n most k)
    within true false l k h = absurd (true≢false (cc))
    within false high l k h = absurd (true≢false (cc))

module _ {A : Type 0} (most n : ℕ) (t : Told A) where
  pub too_few : n < 2 → sized most n t ≡ refused 1 nowhere
  unfolding sized in_size
  too_few h = rw (lt-leb 2 n h)

  pub too_many : 2 ≤ n → most < n → sized most n t ≡ refused 1 nowhere
  unfolding sized in_size
  too_many low h = rw (le-leb 2 n low, lt-leb n most h)

  pub fits : 2 ≤ n → n ≤ most → sized most n t ≡ t
  unfolding sized in_size
  fits low high = rw (le-leb 2 n low, le-leb n most high)

  -- as the code tests them
  pub out-of-size : {r : Bool} → r ≡ in_size most n → not r ≡ true → refused 1 nowhere ≡ sized most n t
  unfolding sized
  out-of-size e h = outside (in_size most n) (rw e at h)
    where
      outside : (b : Bool) → not b ≡ true → refused 1 nowhere ≡ cond b t (refused 1 nowhere)
      outside true h = absurd (true≢false (cc))
      outside false h = refl

  pub in-size : {r : Bool} → r ≡ in_size most n → not r ≡ false → sized most n t ≡ t
  in-size e h = let size = size-within most n e h in fits size.0 size.1

-- what the test of the size alone tells: nothing of 2 to `most` ports
pub size-accepted : (most n : ℕ) → accepted (tt {0}) ≡ sized most n (accepted tt) → (2 ≤ n) × (n ≤ most)
unfolding sized
size-accepted most n e = size-within most n refl (ap not (inside (in_size most n) e))
  where
    inside : (b : Bool) → accepted (tt {0}) ≡ cond b (accepted tt) (refused 1 nowhere) → b ≡ true
    inside true e = refl
    inside false e = cc

-- and its refusal is that of a call that needs the size
pub size-refused : {A : Type 0} (most n : ℕ) (t : Told A) (k : ℕ) (s : Spot) → refused k s ≡ sized most n (accepted (tt {0})) → refused k s ≡ sized most n t
unfolding sized
size-refused most n t k s e = outside (in_size most n) e
  where
    outside : (b : Bool) → refused k s ≡ cond b (accepted (tt {0})) (refused 1 nowhere) → refused k s ≡ cond b t (refused 1 nowhere)
    outside true e = cc
    outside false e = let number : k ≡ 1 = cc in let place : s ≡ nowhere = cc in rw (number, place)

pub few-out : (most n : ℕ) → n < 2 → false ≡ in_size most n
unfolding in_size
few-out most n h = rw (lt-leb 2 n h)

pub rest_in : (most n : ℕ) → 2 ≤ n → leb n most ≡ in_size most n
unfolding in_size
rest_in most n h = rw (le-leb 2 n h)

-- of 2 to `most` ports, the check tells the first fault
pub check-fault : (pattern : Bool) (most : ℕ) (p : List ℕ) (f : Fault) → 2 ≤ length p → length p ≤ most → f ≡ fault_of pattern p
    → fault_told f tt ≡ check_as pattern most p
unfolding check_as
check-fault pattern most p f low high e = ap (λ (g : Fault). fault_told g tt) e ∙ sym (fits most (length p) (fault_told (fault_of pattern p) tt) low high)
