-- Laws of panels jack by jack: equal panels, panels in arrays, tabulated panels, panels after orders.
-- Assumes nothing.
use mathlib.Core.Path.{◌≡◌, refl, sym, ap, ◌∙◌}
use mathlib.Core.Logic.{◌≢◌}
use mathlib.Core.List.{List, [], ◌∷◌, ◌++◌}
use Prim.Native.Nat.{ℕ, zero, suc, ◌-◌, ◌≤◌, ◌<◌}
use native.Mathlib.Omega.{arith}
use lib.ListN.{length, take, get_or, set}
use lib.Seq.{ext_get_or, get_or-take, get_or-set_same, get_or-set_other}
use Rattle.listing.specs.Numbers.{Among}
use Rattle.listing.specs.Pattern.{entry, tabulate}
use Rattle.listing.specs.Orders.{Order, source, carry, carry_all}

-- ---- equal panels

-- two panels of one length that agree at each jack are equal
pub same_entries : (p q : List ℕ) → length p ≡ length q → ((j : ℕ) → Among (length p) j → entry p j ≡ entry q j) → p ≡ q
same_entries p q e h = ext_get_or 0 p q e (λ k b. h (suc k) (omega arith))

-- ---- panels in arrays

-- what an array has at the place below a jack
pub entry-below : (a : List ℕ) (j : ℕ) → 1 ≤ j → get_or a (j - 1) 0 ≡ entry a j
entry-below a zero h = absurd (omega arith)
entry-below a (suc j) h = let e : suc j - 1 ≡ j = omega arith in rw e

-- the front of an array has its entries
pub entry-take : (n : ℕ) (a : List ℕ) (j : ℕ) → j ≤ n → entry (take n a) j ≡ entry a j
entry-take n a zero h = refl
entry-take n a (suc j) h = get_or-take n a j 0 h

-- so what an array has at the place below a jack is the entry of its front
pub entry-front : (n : ℕ) (a : List ℕ) (j : ℕ) → Among n j → get_or a (j - 1) 0 ≡ entry (take n a) j
entry-front n a j h = entry-below a j h.0 ∙ sym (entry-take n a j h.1)

-- after a store: the entry that was stored, and the others
pub entry-same : (a : List ℕ) (k v : ℕ) → k < length a → entry (set a k v) (suc k) ≡ v
entry-same a k v h = get_or-set_same a k v 0 h

pub entry_other : (a : List ℕ) (k v j : ℕ) → j ≢ suc k → entry (set a k v) j ≡ entry a j
entry_other a k v zero d = refl
entry_other a k v (suc j) d = get_or-set_other a k j v 0 (omega arith)

-- ---- tabulated panels

pub length-tabulate : (n : ℕ) (g : ℕ → ℕ) → length (tabulate n g) ≡ n
unfolding tabulate
length-tabulate zero g = refl
length-tabulate (suc n) g = ap suc (length-tabulate n (λ j. g (suc j)))

pub entry-tabulate : (n : ℕ) (g : ℕ → ℕ) (j : ℕ) → Among n j → entry (tabulate n g) j ≡ g j
unfolding tabulate
entry-tabulate zero g j h = absurd (omega arith)
entry-tabulate (suc n) g zero h = absurd (omega arith)
entry-tabulate (suc n) g (suc zero) h = refl
entry-tabulate (suc n) g (suc (suc j)) h = entry-tabulate n (λ k. g (suc k)) (suc j) (omega arith)

-- a panel is tabulated if it is so at each jack
pub is-tabulated : (n : ℕ) (g : ℕ → ℕ) (p : List ℕ) → length p ≡ n → ((j : ℕ) → Among n j → g j ≡ entry p j) → tabulate n g ≡ p
is-tabulated n g p long each =
    let len : length (tabulate n g) ≡ n = length-tabulate n g in
    same_entries (tabulate n g) p (len ∙ sym long) (λ j h.
    let a : Among n j = omega arith in
    entry-tabulate n g j a ∙ each j a)

-- ---- a panel after an order

pub length-carry : (o : Order) (p : List ℕ) → length (carry o p) ≡ length p
unfolding carry
length-carry o p = length-tabulate (length p) _

pub entry-carry : (o : Order) (p : List ℕ) (j : ℕ) → Among (length p) j → entry (carry o p) j ≡ entry p (source o j)
unfolding carry
entry-carry o p j h = entry-tabulate (length p) (λ k. entry p (source o k)) j h

-- an order leads to q if at each jack q has the entry that p has at the source
pub carries-to : (o : Order) (p q : List ℕ) → length q ≡ length p → ((j : ℕ) → Among (length p) j → entry p (source o j) ≡ entry q j) → carry o p ≡ q
unfolding carry
carries-to o p q e each = is-tabulated (length p) (λ j. entry p (source o j)) q e each

pub length-carry_all : (os : List Order) (p : List ℕ) → length (carry_all os p) ≡ length p
unfolding carry_all
length-carry_all [] p = refl
length-carry_all (o ∷ os) p = length-carry_all os (carry o p) ∙ length-carry o p

pub carry_all-append : (xs ys : List Order) (p : List ℕ) → carry_all (xs ++ ys) p ≡ carry_all ys (carry_all xs p)
unfolding carry_all
carry_all-append [] ys p = refl
carry_all-append (o ∷ xs) ys p = carry_all-append xs ys (carry o p)
