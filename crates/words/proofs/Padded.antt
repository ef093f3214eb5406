-- A list in an array that is longer: how many entries it has, the list at its front, what stands beyond it, and the next entry.
-- Assumes nothing.
use mathlib.Core.Path.{◌≡◌, refl, sym, ap, ◌∙◌}
use mathlib.Core.List.{List, [], ◌∷◌, ◌++◌}
use Prim.Native.Nat.{ℕ, zero, suc, ◌-◌, ◌≤◌, ◌<◌}
use native.Mathlib.Numerals.{add-one}
use native.Mathlib.Omega.{arith}
use lib.ListN.{length, get_or, take, set, replicate, length-append, length-replicate}
use lib.Seq.{set_at, append_snoc, take-append_seam}
use Rattle.words.specs.Padded.{padded}

-- a list in places has as many entries as there are places
pub padded-length : {A : Type 0} (most : ℕ) (z : A) (l : List A) → length l ≤ most → length (padded most z l) ≡ most
padded-length most z l h = length-append l (replicate (most - length l) z) ∙ (let e = length-replicate (most - length l) z in omega arith)

-- and no fewer than the list
pub padded-room : {A : Type 0} (most : ℕ) (z : A) (l : List A) → length l ≤ length (padded most z l)
padded-room most z l = omega (arith, length-append l (replicate (most - length l) z))

-- the list stands at the front
pub padded-front : {A : Type 0} (most n : ℕ) (z : A) (l : List A) → length l ≡ n → take n (padded most z l) ≡ l
padded-front most n z l e = ap (λ k. take k (padded most z l)) (sym e) ∙ take-append_seam l (replicate (most - length l) z)

-- and beyond it are zeros
zeros : {A : Type 0} (z : A) (k i : ℕ) → get_or (replicate k z) i z ≡ z
zeros z zero i = refl
zeros z (suc k) zero = refl
zeros z (suc k) (suc i) = zeros z k i

behind : {A : Type 0} (z : A) (l : List A) (k i : ℕ) → length l ≤ i → get_or (l ++ replicate k z) i z ≡ z
behind z [] k i h = zeros z k i
behind z (x ∷ l) k zero h = absurd (omega arith)
behind z (x ∷ l) k (suc i) h = behind z l k i (omega arith)

pub padded-beyond : {A : Type 0} (most : ℕ) (z : A) (l : List A) (i : ℕ) → length l ≤ i → get_or (padded most z l) i z ≡ z
padded-beyond most z l i h = behind z l (most - length l) i h

-- the first place that is 0 gets the next entry
pub padded-set : {A : Type 0} (most : ℕ) (z v : A) (l : List A) → length l < most → set (padded most z l) (length l) v ≡ padded most z (l ++ (v ∷ []))
padded-set {A} most z v l h =
    let one : most - length l ≡ suc (most - suc (length l)) = omega arith in
    let all : length (l ++ (v ∷ [])) ≡ suc (length l) = length-append l (v ∷ []) ∙ add-one (length l) in
    ap (λ k. set (l ++ replicate k z) (length l) v) one
    ∙ set_at l z (replicate (most - suc (length l)) z) v (length l) refl
    ∙ sym (append_snoc l v (replicate (most - suc (length l)) z))
    ∙ ap (λ k. (l ++ (v ∷ [])) ++ replicate (most - k) z) (sym all)
