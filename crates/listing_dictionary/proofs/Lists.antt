-- Members of a list, by `Has` and by place.
-- Assumes nothing.
use mathlib.Core.Path.{◌≡◌, refl, sym}
use mathlib.Core.Logic.{◌⊎◌, inl, inr}
use mathlib.Core.List.{List, [], ◌∷◌}
use Prim.Native.Nat.{ℕ, zero, suc, ◌<◌}
use native.Mathlib.Nat.{not-suc-le-zero, le_of_suc-le-suc}
use native.Mathlib.Omega.{arith}
use lib.ListN.{length, get_or}

module _ {A : Type 0} where
  -- x is one of the list
  abbrev pub Has : A → List A → Type 0
  Has x [] = ⊥
  Has x (y ∷ ys) = (x ≡ y) ⊎ Has x ys

  -- it stands at a place of the list
  pub has-place : (x : A) (l : List A) (d : A) → Has x l → (r : ℕ) × (r < length l) × (get_or l r d ≡ x)
  has-place x [] d h = absurd h
  has-place x (y ∷ ys) d (inl e) = (0, omega arith, sym e)
  has-place x (y ∷ ys) d (inr h) = let c = has-place x ys d h in (suc c.0, omega (arith, c.1), c.2)

  -- what stands at a place is one of the list
  pub place-has : (l : List A) (r : ℕ) (d : A) → r < length l → Has (get_or l r d) l
  place-has [] r d h = absurd (not-suc-le-zero h)
  place-has (x ∷ xs) zero d h = inl refl
  place-has (x ∷ xs) (suc r) d h = inr (place-has xs r d (le_of_suc-le-suc h))

  pub no_length : (l : List A) → length l ≡ 0 → l ≡ []
  no_length [] h = refl
  no_length (x ∷ xs) h = absurd (let z : suc (length xs) ≡ 0 = h in omega arith)
