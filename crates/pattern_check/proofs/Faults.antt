-- The first fault as a loop finds it: jacks from 1, at each jack the port's range, then the earlier jacks, then the jack itself.
-- `at` is the jack's place in the slice, so that the jack is at + 1.
-- Assumes nothing.
use mathlib.Core.Path.{◌≡◌, sym, ◌∙◌}
use mathlib.Core.Logic.{◌≢◌}
use mathlib.Core.Bool.{Bool, true, false}
use mathlib.Core.List.{List}
use Prim.Native.Nat.{ℕ, suc, ◌+◌, ◌-◌, ◌≤◌, ◌<◌}
use native.Mathlib.Numerals.{add-one}
use native.Mathlib.Omega.{arith}
use lib.ListN.{length, get_or}
use borrow.Author.Tests.{eq-eqb, ne_eqb, le-leb, lt-leb}
use Rattle.pattern_check.specs.Faults.{Fault, sound, outside, repeated, own_jack, seek, earlier, fault_at, first_of, fault_from, fault_of}

-- ---- the earlier jacks

-- the jack at k holds the port
pub seek-here : (p : List ℕ) (v k a : ℕ) → k < a → get_or p k 0 ≡ v → seek p v (suc k) (a - k) ≡ suc k
unfolding seek
seek-here p v k a h e = let more : a - k ≡ suc (a - suc k) = omega arith in rw (more, eq-eqb (get_or p k 0) v e)

-- it does not, so the later ones decide
pub seek-on : (p : List ℕ) (v k a : ℕ) → k < a → get_or p k 0 ≢ v → seek p v (suc k) (a - k) ≡ seek p v (suc (k + 1)) (a - (k + 1))
unfolding seek
seek-on p v k a h d = let more : a - k ≡ suc (a - suc k) = omega arith in rw (add-one, more, ne_eqb (get_or p k 0) v d)

-- none is left
pub seek-none : (p : List ℕ) (v k a : ℕ) → a ≤ k → seek p v (suc k) (a - k) ≡ 0
unfolding seek
seek-none p v k a h = let none : a - k ≡ 0 = omega arith in rw none

-- ---- one jack

module _ (pattern : Bool) (n : ℕ) (p : List ℕ) (at : ℕ) where
  pub at_zero : get_or p at 0 < 1 → fault_at pattern n p (suc at) ≡ outside (at + 1)
  unfolding fault_at
  at_zero h = rw (add-one, eq-eqb (get_or p at 0) 0 (omega arith))

  pub at_above : 1 ≤ get_or p at 0 → n < get_or p at 0 → fault_at pattern n p (suc at) ≡ outside (at + 1)
  unfolding fault_at
  at_above low h = rw (add-one, ne_eqb (get_or p at 0) 0 (omega arith), lt-leb (get_or p at 0) n h)

  module _ (low : 1 ≤ get_or p at 0) (high : get_or p at 0 ≤ n) where
    pub at-repeated : (k : ℕ) → earlier p (suc at) ≡ suc k → fault_at pattern n p (suc at) ≡ repeated (at + 1) (k + 1)
    unfolding fault_at
    at-repeated k e = rw (add-one, add-one, ne_eqb (get_or p at 0) 0 (omega arith), le-leb (get_or p at 0) n high, e, ne_eqb (suc k) 0 (omega arith))

    module _ (fresh : earlier p (suc at) ≡ 0) where
      pub at_own : pattern ≡ true → get_or p at 0 ≡ at + 1 → fault_at pattern n p (suc at) ≡ own_jack (at + 1)
      unfolding fault_at
      at_own t e =
          rw (add-one, ne_eqb (get_or p at 0) 0 (omega arith), le-leb (get_or p at 0) n high, fresh, t, eq-eqb (get_or p at 0) (suc at) (omega arith))

      pub at_other : pattern ≡ true → get_or p at 0 ≢ at + 1 → fault_at pattern n p (suc at) ≡ sound
      unfolding fault_at
      at_other t e = rw (ne_eqb (get_or p at 0) 0 (omega arith), le-leb (get_or p at 0) n high, fresh, t, ne_eqb (get_or p at 0) (suc at) (omega arith))

      pub at-panel : pattern ≡ false → fault_at pattern n p (suc at) ≡ sound
      unfolding fault_at
      at-panel t = rw (ne_eqb (get_or p at 0) 0 (omega arith), le-leb (get_or p at 0) n high, fresh, t)

  -- ---- the jacks from there on

  -- a fault there is the first
  from-fault : (f : Fault) → at < n → fault_at pattern n p (suc at) ≡ f → fault_from pattern n p (suc at) (n - at) ≡ first_of f (fault_from pattern n p (suc (at + 1)) (n - (at + 1)))
  unfolding fault_from
  from-fault f h e = let more : n - at ≡ suc (n - suc at) = omega arith in rw (add-one, more, e)

  -- none is left
  pub from-none : n ≤ at → fault_from pattern n p (suc at) (n - at) ≡ sound
  unfolding fault_from
  from-none h = let none : n - at ≡ 0 = omega arith in rw none

-- ---- what a turn of the loop shows

module _ (pattern : Bool) (p : List ℕ) (at : ℕ) (so_far : fault_of pattern p ≡ fault_from pattern (length p) p (suc at) (length p - at)) (here : at < length p) where
  -- a fault at the jack is the first fault
  pub found : (f : Fault) → fault_at pattern (length p) p (suc at) ≡ f → ((g : Fault) → first_of f g ≡ f) → f ≡ fault_of pattern p
  found f e first = sym (so_far ∙ from-fault pattern (length p) p at f here e ∙ first (fault_from pattern (length p) p (suc (at + 1)) (length p - (at + 1))))

  -- no fault at the jack: the later jacks decide
  pub passed : fault_at pattern (length p) p (suc at) ≡ sound → fault_of pattern p ≡ fault_from pattern (length p) p (suc (at + 1)) (length p - (at + 1))
  passed e = so_far ∙ from-fault pattern (length p) p at sound here e
