-- Laws of steps round a circuit.
-- Assumes nothing.
use mathlib.Core.Path.{◌≡◌, sym, ap, ◌∙◌}
use mathlib.Core.Logic.{◌⊎◌, inl, inr}
use Prim.Native.Nat.{ℕ, suc, ◌+◌, ◌-◌, ◌≤◌, ◌<◌}
use native.Mathlib.Omega.{arith}
use lib.Dec.{leb, ltb}
use borrow.Author.Tests.{leb-true, leb-false, ltb-true, ltb-false}
use Rattle.listing.proofs.Numbers.{either, test}
use Rattle.promise_arcs.specs.Circle.{onward, backward, ahead}

-- ---- by cases

pub onward-cases : (c a i : ℕ) → ((a + i < c) × (onward c a i ≡ a + i)) ⊎ ((c ≤ a + i) × (onward c a i + c ≡ a + i))
unfolding onward
onward-cases c a i =
    either (test (ltb (a + i) c))
    (λ e. inl (ltb-true (a + i) c e, rw e))
    (λ e. let h : c ≤ a + i = ltb-false (a + i) c e in inr (h, rw e (omega arith)))

pub backward-cases : (c a i : ℕ) → i ≤ c → ((i ≤ a) × (backward c a i + i ≡ a)) ⊎ ((a < i) × (backward c a i + i ≡ a + c))
unfolding backward
backward-cases c a i l =
    either (test (leb i a))
    (λ e. let h : i ≤ a = leb-true i a e in inl (h, rw e (omega arith)))
    (λ e. let h : a < i = leb-false i a e in inr (h, rw e (omega arith)))

pub ahead-cases : (c a r : ℕ) → a < c → ((a ≤ r) × (ahead c a r + a ≡ r)) ⊎ ((r < a) × (ahead c a r + a ≡ r + c))
unfolding ahead
ahead-cases c a r l =
    either (test (leb a r))
    (λ e. let h : a ≤ r = leb-true a r e in inl (h, rw e (omega arith)))
    (λ e. let h : r < a = leb-false a r e in inr (h, rw e (omega arith)))

-- ---- each is a rank of the circuit

pub onward-below : (c a i : ℕ) → a < c → i ≤ c → onward c a i < c
onward-below c a i h k = either (onward-cases c a i) (λ w. omega arith) (λ w. omega arith)

pub backward-below : (c a i : ℕ) → a < c → i ≤ c → backward c a i < c
backward-below c a i h k = either (backward-cases c a i k) (λ w. omega arith) (λ w. omega arith)

pub ahead-below : (c a r : ℕ) → a < c → r < c → ahead c a r < c
ahead-below c a r h k = either (ahead-cases c a r h) (λ w. omega arith) (λ w. omega arith)

-- ---- one undoes the other

pub ahead-onward : (c a i : ℕ) → a < c → i < c → ahead c a (onward c a i) ≡ i
ahead-onward c a i h k =
    either (onward-cases c a i)
    (λ w. either (ahead-cases c a (onward c a i) h) (λ x. omega arith) (λ x. omega arith))
    (λ w. either (ahead-cases c a (onward c a i) h) (λ x. omega arith) (λ x. omega arith))

pub onward-ahead : (c a r : ℕ) → a < c → r < c → onward c a (ahead c a r) ≡ r
onward-ahead c a r h k =
    either (ahead-cases c a r h)
    (λ w. either (onward-cases c a (ahead c a r)) (λ x. omega arith) (λ x. omega arith))
    (λ w. either (onward-cases c a (ahead c a r)) (λ x. omega arith) (λ x. omega arith))

-- no step on is the rank itself, and one step more is one step on
pub onward-none : (c a : ℕ) → a < c → onward c a 0 ≡ a
onward-none c a h = either (onward-cases c a 0) (λ w. omega arith) (λ w. omega arith)

pub onward-more : (c a i : ℕ) → a < c → i < c → onward c (onward c a i) 1 ≡ onward c a (suc i)
onward-more c a i h k =
    either (onward-cases c a i)
    (λ w. either (onward-cases c (onward c a i) 1)
    (λ x. either (onward-cases c a (suc i)) (λ y. omega arith) (λ y. omega arith))
    (λ x. either (onward-cases c a (suc i)) (λ y. omega arith) (λ y. omega arith)))
    (λ w. either (onward-cases c (onward c a i) 1)
    (λ x. either (onward-cases c a (suc i)) (λ y. omega arith) (λ y. omega arith))
    (λ x. either (onward-cases c a (suc i)) (λ y. omega arith) (λ y. omega arith)))

-- a rank is 0 steps on from itself, and no other is
pub ahead-same : (c a : ℕ) → a < c → ahead c a a ≡ 0
ahead-same c a h = either (ahead-cases c a a h) (λ w. omega arith) (λ w. omega arith)

pub ahead_none : (c a r : ℕ) → a < c → r < c → ahead c a r ≡ 0 → a ≡ r
ahead_none c a r h k e = either (ahead-cases c a r h) (λ w. omega arith) (λ w. omega arith)

-- one step back undoes one step on
pub backward-onward : (c a i : ℕ) → a < c → i < c → backward c (onward c a (suc i)) 1 ≡ onward c a i
backward-onward c a i h k =
    let e : ℕ = onward c a (suc i) in
    either (onward-cases c a (suc i))
    (λ w. either (backward-cases c e 1 (omega arith))
    (λ x. either (onward-cases c a i) (λ y. omega arith) (λ y. omega arith))
    (λ x. either (onward-cases c a i) (λ y. omega arith) (λ y. omega arith)))
    (λ w. either (backward-cases c e 1 (omega arith))
    (λ x. either (onward-cases c a i) (λ y. omega arith) (λ y. omega arith))
    (λ x. either (onward-cases c a i) (λ y. omega arith) (λ y. omega arith)))

-- ---- three ranks: from a on to r by way of b

-- as many steps as straight on, or once round more
ahead-over : (c a b r : ℕ) → a < c → b < c → r < c
    → (ahead c a b + ahead c b r ≡ ahead c a r) ⊎ (ahead c a b + ahead c b r ≡ ahead c a r + c)
ahead-over c a b r ha hb hr =
    either (ahead-cases c a b ha)
    (λ w. either (ahead-cases c a r ha)
    (λ x. either (ahead-cases c b r hb) (λ y. inl (omega arith)) (λ y. inr (omega arith)))
    (λ x. either (ahead-cases c b r hb) (λ y. inl (omega arith)) (λ y. inl (omega arith))))
    (λ w. either (ahead-cases c a r ha)
    (λ x. either (ahead-cases c b r hb) (λ y. inr (omega arith)) (λ y. inr (omega arith)))
    (λ x. either (ahead-cases c b r hb) (λ y. inl (omega arith)) (λ y. inr (omega arith))))

-- straight on where b comes first, or is r
pub ahead-by : (c a b r : ℕ) → a < c → b < c → r < c → ahead c a b ≤ ahead c a r → ahead c a b + ahead c b r ≡ ahead c a r
ahead-by c a b r ha hb hr l = let s = ahead-below c b r hb hr in either (ahead-over c a b r ha hb hr) (λ w. w) (λ w. omega arith)

-- once round where r comes first
pub ahead-round : (c a b r : ℕ) → a < c → b < c → r < c → ahead c a r < ahead c a b → ahead c a b + ahead c b r ≡ ahead c a r + c
ahead-round c a b r ha hb hr l = either (ahead-over c a b r ha hb hr) (λ w. omega arith) (λ w. w)

-- the rank before one that is not a is one step less from a
pub ahead_before : (c a r : ℕ) → a < c → r < c → 0 < ahead c a r → suc (ahead c a (backward c r 1)) ≡ ahead c a r
ahead_before c a r ha hr l =
    let d : ℕ = ahead c a r - 1 in
    let n : suc d ≡ ahead c a r = omega arith in
    let k : d < c = omega (arith, ahead-below c a r ha hr) in
    let at : onward c a (suc d) ≡ r = ap (onward c a) n ∙ onward-ahead c a r ha hr in
    ap suc (ap (λ q. ahead c a (backward c q 1)) (sym at) ∙ ap (ahead c a) (backward-onward c a d ha k) ∙ ahead-onward c a d ha k) ∙ n

-- an arc's last rank, which is before the rank past it: from its first
pub ahead-last : (c a i : ℕ) → a < c → i < c → ahead c a (backward c (onward c a (suc i)) 1) ≡ i
ahead-last c a i ha hi = ap (ahead c a) (backward-onward c a i ha hi) ∙ ahead-onward c a i ha hi
