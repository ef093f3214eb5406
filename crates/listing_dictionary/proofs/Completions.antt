-- The rules of the completions: by the port that the next jack gets.
-- Assumes nothing.
use mathlib.Core.Path.{◌≡◌, refl, sym, ap, ◌∙◌}
use Prim.Native.Nat.{ℕ, zero, suc, ◌+◌, ◌*◌, ◌-◌, ◌≤◌}
use native.Mathlib.Nat.{zero-mul, le_refl, le_trans}
use native.Mathlib.Decide.{le_ind}
use native.Mathlib.Omega.{arith}
use Rattle.listing.specs.Numbers.{before}
use Rattle.listing.specs.Count.{count}
use Rattle.listing_dictionary.specs.Completions.{ways, completions}

ways-more : (k e : ℕ) → ways k (suc e) ≡ ways (suc k) e + ways k e
unfolding ways
ways-more k e = refl

ways-none : (k : ℕ) → ways k 0 ≡ count k
unfolding ways
ways-none k = refl

-- a jack of the rest is next, given the rule for a jack that has its own port left
rest-from-own : (k e : ℕ) → ways (suc k) e ≡ k * ways (before k) (suc e) + e * ways k e
    → ways k (suc e) ≡ k * ways (before k) (suc e) + suc e * ways k e
rest-from-own k e own = omega (arith, ways-more k e)

-- The next jack has its own port left, and k others have theirs: it gets the port of one of these k jacks, or one of the e ports that have no jack left
next-own : (e k : ℕ) → ways (suc k) e ≡ k * ways (before k) (suc e) + e * ways k e
unfolding ways count
next-own zero zero = refl
next-own zero (suc k) = omega (arith)
next-own (suc e) zero = omega (arith, next-own e 1, next-own e 0)
next-own (suc e) (suc k) = omega (arith, next-own e (suc (suc k)), next-own e (suc k))

-- the next jack has not its own port left, and k jacks have
next-rest : (e k : ℕ) → ways k (suc e) ≡ k * ways (before k) (suc e) + suc e * ways k e
next-rest e k = rest-from-own k e (next-own e k)

-- ---- by the number of jacks left

completions-ways : (k e m : ℕ) → k + e ≡ m → completions m k ≡ ways k e
unfolding completions
completions-ways k e m h = let d : m - k ≡ e = omega arith in rw d

-- all jacks left have their own port left: the count
pub completions-count : (n : ℕ) → completions n n ≡ count n
completions-count n = completions-ways n 0 n (omega arith) ∙ ways-none n

-- with no jack left there is one way
pub one_way : completions 0 0 ≡ 1
unfolding completions ways count
one_way = refl

-- what a jack of the k passes on
one_less : (k e m : ℕ) → k + e ≡ m → k * ways (before k) (suc e) ≡ k * completions m (before k)
one_less zero e m h = zero-mul (ways 0 (suc e)) ∙ sym (zero-mul (completions m 0))
one_less (suc k) e m h = ap (λ (x : ℕ). suc k * x) (sym (completions-ways k (suc e) m (omega arith)))

-- the next of m + 1 jacks has its own port left, and k others have theirs: of the ports that are not its own, e have no jack left and k have
pub completions-own : (k e m : ℕ) → k + e ≡ m → completions (suc m) (suc k) ≡ e * completions m k + k * completions m (before k)
completions-own k e m h =
    rw (completions-ways (suc k) e (suc m) (omega arith), completions-ways k e m h)
    (omega (arith, next-own e k, one_less k e m h))

-- the next of m + 1 jacks has not its own port left, and k jacks have: e + 1 ports have no jack left and k have
pub completions-rest : (k e m : ℕ) → k + e ≡ m → completions (suc m) k ≡ suc e * completions m k + k * completions m (before k)
completions-rest k e m h =
    rw (completions-ways k (suc e) (suc m) (omega arith), completions-ways k e m h)
    (omega (arith, next-rest e k, one_less k e m h))

-- ---- the rules of a table of completions

-- with no own port left: the product of 1..m
unfoldable pub product : ℕ → ℕ
product zero = 1
product (suc m) = suc m * product m

ways-free : (e : ℕ) → ways 0 e ≡ product e
unfolding ways count product
ways-free zero = refl
ways-free (suc e) = let rule : ways 0 (suc e) ≡ 0 * ways 0 (suc e) + suc e * ways 0 e = next-rest e 0 in rw (← ways-free e) (omega arith)

-- each from its two neighbours: one own port more in the same row, and the row above
pub completions-row : (m k : ℕ) → k ≤ m → completions (suc m) k ≡ completions (suc m) (suc k) + completions m k
completions-row m k h =
    let e = m - k in
    completions-ways k (suc e) (suc m) (omega arith)
    ∙ ways-more k e
    ∙ (rw (completions-ways (suc k) e (suc m) (omega arith), completions-ways k e m (omega arith)) refl)

-- more own ports left, fewer ways
ways-most : (k e : ℕ) → ways k e ≤ ways 0 (k + e)
ways-most zero e = let z : 0 + e ≡ e = omega arith in rw z (omega arith)
ways-most (suc k) e = let z : suc k + e ≡ k + suc e = omega arith in rw z (omega (arith, ways-most k (suc e), ways-more k e))

pub completions-most : (m k : ℕ) → k ≤ m → completions m k ≤ product m
completions-most m k h =
    let e = m - k in
    let z : k + e ≡ m = omega arith in
    rw (completions-ways k e m z, ← ways-free m) (rw z at (ways-most k e))

grows : (x : ℕ) → product x ≤ product (suc x)
unfolding product
grows x = omega arith

pub product-grows : (m l : ℕ) → m ≤ l → product m ≤ product l
product-grows m l h = le_ind (λ (x : ℕ). product m ≤ product x) (le_refl (product m)) (λ x a b. le_trans b (grows x)) l h
