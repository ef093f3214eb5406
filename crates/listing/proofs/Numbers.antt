-- Laws of numbers: the two sides of a comparison; `is`, `trade`, `raise` and `lower` by cases; odd and even.
-- What each `-cases` law gives is the fact of the test beside the value, so that `either` and `omega arith` do the rest.
-- Assumes nothing.
use mathlib.Core.Path.{◌≡◌, refl, sym, ap, ◌∙◌}
use mathlib.Core.Logic.{◌≢◌, ◌⊎◌, inl, inr}
use mathlib.Core.Bool.{Bool, true, false, not, cond}
use Prim.Native.Nat.{ℕ, zero, suc, ◌-◌, ◌%◌, ◌≤◌, ◌<◌}
use native.Mathlib.Omega.{arith}
use lib.Dec.{eqb, leb, ltb}
use borrow.Author.Tests.{eqb-true, eqb-false, leb-true, leb-false, ltb-true, ltb-false, eq-eqb, ne_eqb}
pub use Rattle.listing.proofs.Tests.{either, test}
pub use Rattle.listing.proofs.Raising.{raise-cases}
use Rattle.listing.specs.Numbers.{Among, before, is, trade, raise, lower, odd}

-- ---- two cases

-- what is so of two values is so of the one that a test takes
pub of_test : {A : Type 0} (Is : A → Type 0) (t : Bool) (a b : A) → Is a → Is b → Is (cond t a b)
of_test Is true a b h k = h
of_test Is false a b h k = k

-- a is below b or not
pub below? : (a b : ℕ) → (a < b) ⊎ (b ≤ a)
below? a b = either (test (ltb a b)) (λ e. inl (ltb-true a b e)) (λ e. inr (ltb-false a b e))

-- a is b or not
pub same? : (a b : ℕ) → (a ≡ b) ⊎ (a ≢ b)
same? a b = either (test (eqb a b)) (λ e. inl (eqb-true a b e)) (λ e. inr (eqb-false a b e))

-- a number that is not 0 comes after the one before it
pub suc-before : (x : ℕ) → 1 ≤ x → suc (before x) ≡ x
suc-before zero h = absurd (omega arith)
suc-before (suc x) h = refl

-- one less is the number before, and two less the number before that
pub less_one : (n : ℕ) → n - 1 ≡ before n
less_one zero = refl
less_one (suc n) = omega arith

pub less_two : (n : ℕ) → n - 2 ≡ before (before n)
less_two n = omega (arith, less_one n, less_one (before n))

-- what holds for each m + 2 holds from 2 on
pub from-two : (P : ℕ → Type 0) → ((m : ℕ) → P (suc (suc m))) → (n : ℕ) → 2 ≤ n → P n
from-two P each zero h = absurd (omega arith)
from-two P each (suc zero) h = absurd (omega arith)
from-two P each (suc (suc m)) h = each m

-- ---- is

pub is_same : (j a x y : ℕ) → j ≡ a → is j a x y ≡ x
unfolding is
is_same j a x y e = rw (eq-eqb j a e)

pub is-other : (j a x y : ℕ) → j ≢ a → is j a x y ≡ y
unfolding is
is-other j a x y e = rw (ne_eqb j a e)

pub is-cases : (j a x y : ℕ) → ((j ≡ a) × (is j a x y ≡ x)) ⊎ ((j ≢ a) × (is j a x y ≡ y))
is-cases j a x y = either (same? j a) (λ e. inl (e, is_same j a x y e)) (λ e. inr (e, is-other j a x y e))

-- ---- trade

pub trade-cases : (a b v : ℕ) → ((v ≡ a) × (trade a b v ≡ b)) ⊎ ((v ≢ a) × (trade a b v ≡ v))
unfolding trade
trade-cases a b v = is-cases v a b v

-- ---- raise and lower

pub lower-cases : (i v : ℕ) → ((v ≤ i) × (lower i v ≡ v)) ⊎ ((i < v) × (suc (lower i v) ≡ v))
unfolding lower
lower-cases i v =
    either (test (ltb i v))
    (λ e. let h : i < v = ltb-true i v e in inr (h, rw e (suc-before v (omega arith))))
    (λ e. inl (ltb-false i v e, rw e))

pub raise-low : (i v : ℕ) → v < i → raise i v ≡ v
raise-low i v h = either (raise-cases i v) (λ c. c.1) (λ c. omega arith)

pub raise-high : (i v : ℕ) → i ≤ v → raise i v ≡ suc v
raise-high i v h = either (raise-cases i v) (λ c. omega arith) (λ c. c.1)

-- `raise` adds at most one, and leaves i free
pub raise-near : (i v : ℕ) → (v ≤ raise i v) × (raise i v ≤ suc v) × (raise i v ≢ i)
raise-near i v = either (raise-cases i v) (λ c. omega arith) (λ c. omega arith)

-- `raise` keeps the order
pub raise-less : (i a b : ℕ) → a < b → raise i a < raise i b
raise-less i a b h =
    either (raise-cases i a)
    (λ c. either (raise-cases i b) (λ d. omega arith) (λ d. omega arith))
    (λ c. either (raise-cases i b) (λ d. omega arith) (λ d. omega arith))

-- what is raised comes down again
pub lower-raise : (i v : ℕ) → lower i (raise i v) ≡ v
lower-raise i v =
    either (raise-cases i v)
    (λ c. either (lower-cases i (raise i v)) (λ d. omega arith) (λ d. omega arith))
    (λ c. either (lower-cases i (raise i v)) (λ d. omega arith) (λ d. omega arith))

-- what is lowered goes up again, unless it is i
pub raise-lower : (i v : ℕ) → v ≢ i → raise i (lower i v) ≡ v
raise-lower i v h =
    either (lower-cases i v)
    (λ c. either (raise-cases i (lower i v)) (λ d. omega arith) (λ d. omega arith))
    (λ c. either (raise-cases i (lower i v)) (λ d. omega arith) (λ d. omega arith))

-- two values that are raised alike are one
pub raise-inj : (i a b : ℕ) → raise i a ≡ raise i b → a ≡ b
raise-inj i a b e = sym (lower-raise i a) ∙ ap (lower i) e ∙ lower-raise i b

-- two different values are raised to different ones
pub raise-apart : (i a b : ℕ) → a ≢ b → raise i a ≢ raise i b
raise-apart i a b ne e = ne (raise-inj i a b e)

-- ---- room for i among 1..m, and back

pub raise-among : (m i k : ℕ) → Among m k → Among (suc m) (raise i k)
raise-among m i k h = omega (arith, raise-near i k)

pub lower-among : (m i j : ℕ) → Among (suc m) i → Among (suc m) j → j ≢ i → Among m (lower i j)
lower-among m i j hi hj d = either (lower-cases i j) (λ c. omega arith) (λ c. omega arith)

pub among-raised : (m i v : ℕ) → Among (suc m) i → Among (suc m) (raise i v) → Among m v
among-raised m i v hi hv = either (raise-cases i v) (λ c. omega arith) (λ c. omega arith)

-- ---- odd and even

not-twice : (b : Bool) → not (not b) ≡ b
not-twice true = refl
not-twice false = refl

pub odd-next : (x : ℕ) → odd (suc x) ≡ not (odd x)
unfolding odd
odd-next x = refl

pub odd-two : (x : ℕ) → odd (suc (suc x)) ≡ odd x
unfolding odd
odd-two x = not-twice (odd x)

-- the parity that code tests
pub odd-rest : (x : ℕ) → odd x ≡ eqb (x % 2) 1
unfolding odd
odd-rest zero = refl
odd-rest (suc zero) = refl
odd-rest (suc (suc x)) = let e : suc (suc x) % 2 ≡ x % 2 = omega arith in rw e (not-twice (odd x) ∙ odd-rest x)
