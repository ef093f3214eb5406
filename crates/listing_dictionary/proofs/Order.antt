-- Dictionary order is strict and total on panels of one length. A list of given panels that is sorted by it is the only one.
-- Assumes nothing.
use mathlib.Core.Path.{◌≡◌, refl, sym, ap₂, ◌∙◌, subst}
use mathlib.Core.Logic.{◌⊎◌, inl, inr}
use mathlib.Core.List.{List, [], ◌∷◌}
use Prim.Native.Nat.{ℕ, suc, ◌<◌}
use native.Mathlib.Omega.{arith}
use lib.ListN.{length, get_or}
use Rattle.listing.proofs.Numbers.{either, below?}
use Rattle.listing_dictionary.specs.Order.{Precedes, Sorted}
use Rattle.listing_dictionary.proofs.Lists.{Has, has-place, place-has}

-- ---- strict and total

-- no panel precedes itself
not_itself : (p : List ℕ) → Precedes p p → ⊥
not_itself [] h = h
not_itself (x ∷ p) (inl h) = omega arith
not_itself (x ∷ p) (inr h) = not_itself p h.1

precedes-trans : (p q s : List ℕ) → Precedes p q → Precedes q s → Precedes p s
precedes-trans [] q s h g = absurd h
precedes-trans (x ∷ p) [] s h g = absurd h
precedes-trans (x ∷ p) (y ∷ q) [] h g = absurd g
precedes-trans (x ∷ p) (y ∷ q) (z ∷ s) (inl h) (inl g) = inl (omega arith)
precedes-trans (x ∷ p) (y ∷ q) (z ∷ s) (inl h) (inr g) = inl (omega (arith, g.0))
precedes-trans (x ∷ p) (y ∷ q) (z ∷ s) (inr h) (inl g) = inl (omega (arith, h.0))
precedes-trans (x ∷ p) (y ∷ q) (z ∷ s) (inr h) (inr g) = inr (h.0 ∙ g.0, precedes-trans p q s h.1 g.1)

-- of two panels of one length, one precedes the other or they are equal
pub precedes-total : (p q : List ℕ) → length p ≡ length q → (p ≡ q) ⊎ (Precedes p q ⊎ Precedes q p)
precedes-total [] [] e = inl refl
precedes-total [] (y ∷ q) e = absurd (let z : 0 ≡ suc (length q) = e in omega arith)
precedes-total (x ∷ p) [] e = absurd (let z : suc (length p) ≡ 0 = e in omega arith)
precedes-total (x ∷ p) (y ∷ q) e =
    either (below? x y) (λ h. inr (inl (inl h))) (λ ge.
    either (below? y x) (λ h. inr (inr (inl h))) (λ le.
    let same : x ≡ y = omega arith in
    either (precedes-total p q (omega arith)) (λ t. inl (ap₂ (λ (a : ℕ) (l : List ℕ). a ∷ l) same t)) (λ c.
    either c (λ h. inr (inl (inr (same, h)))) (λ h. inr (inr (inr (sym same, h)))))))

-- ---- a sorted list is the only one

-- each panel precedes all that come after it
abbrev Rising : List (List ℕ) → Type 0
Rising [] = Unit {0}
Rising (p ∷ l) = ((q : List ℕ) → Has q l → Precedes p q) × Rising l

rising : (l : List (List ℕ)) → ((r s : ℕ) → r < s → s < length l → Precedes (get_or l r []) (get_or l s [])) → Rising l
rising [] h = tt
rising (p ∷ l) h = (
  λ q m. let c = has-place q l [] m in subst (Precedes p) c.2 (h 0 (suc c.0) (omega arith) (omega (arith, c.1))),
  rising l (λ r s a b. h (suc r) (suc s) (omega arith) (omega arith)),
)

same_first : (p q : List ℕ) (k l : List (List ℕ)) → Rising (p ∷ k) → Rising (q ∷ l) → Has p (q ∷ l) → Has q (p ∷ k) → p ≡ q
same_first p q k l rk rl (inl e) b = e
same_first p q k l rk rl (inr a) (inl e) = sym e
same_first p q k l rk rl (inr a) (inr b) = absurd (not_itself p (precedes-trans p q p (rk.0 q b) (rl.0 p a)))

-- a later member of k is a later member of l
still-has : (p q z : List ℕ) (k l : List (List ℕ)) → p ≡ q → Rising (p ∷ k) → Has z k → Has z (q ∷ l) → Has z l
still-has p q z k l e rk h (inl f) = absurd (not_itself p (subst (Precedes p) (f ∙ sym e) (rk.0 z h)))
still-has p q z k l e rk h (inr g) = g

same_lists : (k l : List (List ℕ)) → Rising k → Rising l → ((p : List ℕ) → Has p k → Has p l) → ((p : List ℕ) → Has p l → Has p k) → k ≡ l
same_lists [] [] rk rl to fro = refl
same_lists [] (q ∷ l) rk rl to fro = absurd (fro q (inl refl))
same_lists (p ∷ k) [] rk rl to fro = absurd (to p (inl refl))
same_lists (p ∷ k) (q ∷ l) rk rl to fro =
    let e : p ≡ q = same_first p q k l rk rl (to p (inl refl)) (fro q (inl refl)) in
    ap₂ (λ (x : List ℕ) (xs : List (List ℕ)). x ∷ xs) e
    (same_lists k l rk.1 rl.1
    (λ z h. still-has p q z k l e rk h (to z (inr h)))
    (λ z h. still-has q p z l k (sym e) rl h (fro z (inr h))))

module _ (P : List ℕ → Type 0) where
  crosses : (k l : List (List ℕ)) → Sorted P k → Sorted P l → (p : List ℕ) → Has p k → Has p l
  crosses k l sk sl p h =
      let c = has-place p k [] h in
      let d = sl.every p (subst P c.2 (sk.only c.0 c.1)) in
      subst (λ (q : List ℕ). Has q l) d.2 (place-has l d.0 [] d.1)

  -- two lists in dictionary order of the same panels are one list
  pub sorted-once : (k l : List (List ℕ)) → Sorted P k → Sorted P l → k ≡ l
  sorted-once k l sk sl = same_lists k l (rising k sk.rising) (rising l sl.rising) (crosses k l sk sl) (crosses l k sl sk)

-- a list of the panels of one kind is one of those of another kind that holds of the same
pub sorted-for : (P Q : List ℕ → Type 0) (l : List (List ℕ)) → ((p : List ℕ) → P p → Q p) → ((p : List ℕ) → Q p → P p) → Sorted P l → Sorted Q l
sorted-for P Q l to fro s = record { rising = s.rising; only = λ r h. to (get_or l r []) (s.only r h); every = λ p h. s.every p (fro p h) }
