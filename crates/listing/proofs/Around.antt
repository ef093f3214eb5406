-- Laws of the signed step: (rank + k) modulo the count is between 0 and count - 1, a whole round changes nothing, and these two determine it.
-- One step on is the next rank, one step back the previous, and two steps after each other are their sum.
-- Assumes nothing.
use mathlib.Core.Path.{◌≡◌, refl, sym, ap, ◌∙◌}
use mathlib.Core.Logic.{◌⊎◌, inl, inr}
use Prim.Native.Nat.{ℕ, zero, suc, ◌+◌, ◌*◌, ◌-◌, ◌/◌, ◌%◌, ◌≤◌, ◌<◌}
use native.Mathlib.Nat.{mod-lt, mod-eq_of_lt, add-mod_right, mod-eq-sub-mod, div-add-mod', add-mod-mod, mod_self}
use native.Mathlib.Omega.{arith}
use lib.IntN.{ℤ, pos, negsuc, ◌+ℤ◌, +ℤ_assoc, +ℤ_comm, +ℤ_idr}
use borrow.Author.Tests.{lt-ltb, le-ltb}
use Rattle.listing.specs.Numbers.{before}
use Rattle.listing.specs.Count.{count}
use Rattle.listing.specs.Rank.{from_end}
use Rattle.listing.specs.Neighbours.{next_rank, previous_rank}
use Rattle.listing.specs.Around.{modulo, around}
use Rattle.listing.proofs.Numbers.{either, below?, same?, suc-before, is_same, is-other}

-- ---- modulo

pub modulo-below : (c : ℕ) → 0 < c → (z : ℤ) → modulo z c < c
unfolding modulo
modulo-below c h (pos k) = mod-lt k h
modulo-below c h (negsuc k) = omega (arith, mod-lt k h)

-- a number below c is its own rest
pub modulo-small : (c k : ℕ) → k < c → modulo (pos k) c ≡ k
unfolding modulo
modulo-small c k h = mod-eq_of_lt h

-- a - (b + 1), for a larger a
minus-more : (a b : ℕ) → suc b ≤ a → pos a +ℤ negsuc b ≡ pos (a - suc b)
minus-more a b h = rw (le-ltb a (suc b) h)

-- a whole round changes nothing
pub modulo-round : (c : ℕ) → 0 < c → (z : ℤ) → modulo (z +ℤ pos c) c ≡ modulo z c
unfolding modulo
modulo-round c h (pos k) = add-mod_right k c
modulo-round c h (negsuc k) =
    either (below? k c)
    (λ b.
    let small : k % c ≡ k = mod-eq_of_lt b in
    let rest : (c - suc k) % c ≡ c - suc k = mod-eq_of_lt (omega arith) in
    rw (le-ltb c (suc k) b, small) rest)
    (λ b.
    let e : suc k - suc c ≡ k - c = omega arith in
    rw (lt-ltb c (suc k) (omega arith), e, mod-eq-sub-mod b))

-- nor do q rounds
pub modulo-rounds : (c : ℕ) → 0 < c → (q : ℕ) (z : ℤ) → modulo (z +ℤ pos (q * c)) c ≡ modulo z c
modulo-rounds c h zero z = let e : 0 * c ≡ 0 = omega arith in rw (e, +ℤ_idr z)
modulo-rounds c h (suc q) z =
    let e : pos (suc q * c) ≡ pos (q * c) +ℤ pos c = ap pos (omega arith) in
    rw (e, ← (+ℤ_assoc z (pos (q * c)) (pos c))) (modulo-round c h (z +ℤ pos (q * c)) ∙ modulo-rounds c h q z)

-- so the rest is the only number below c that is q rounds away, on either side
pub only-rest : (c s q : ℕ) (z : ℤ) → s < c → (pos s ≡ z +ℤ pos (q * c)) ⊎ (z ≡ pos s +ℤ pos (q * c)) → modulo z c ≡ s
only-rest c s q z h (inl e) = sym (modulo-rounds c (omega arith) q z) ∙ ap (λ (y : ℤ). modulo y c) (sym e) ∙ modulo-small c s h
only-rest c s q z h (inr e) = ap (λ (y : ℤ). modulo y c) e ∙ modulo-rounds c (omega arith) q (pos s) ∙ modulo-small c s h

-- and each number is so many rounds from its rest
pub rest-away : (c : ℕ) → 0 < c → (z : ℤ) → (q : ℕ) × ((pos (modulo z c) ≡ z +ℤ pos (q * c)) ⊎ (z ≡ pos (modulo z c) +ℤ pos (q * c)))
unfolding modulo
rest-away c h (pos k) = (k / c, inr (ap pos (sym (omega (arith, div-add-mod' k c)))))
rest-away c h (negsuc k) =
    let more : suc k ≤ suc (k / c) * c = omega (arith, div-add-mod' k c, mod-lt k h) in
    let there : negsuc k +ℤ pos (suc (k / c) * c) ≡ pos (suc (k / c) * c - suc k) =
    +ℤ_comm (negsuc k) (pos (suc (k / c) * c)) ∙ minus-more (suc (k / c) * c) k more in
    (suc (k / c), inl (ap pos (omega (arith, div-add-mod' k c, mod-lt k h)) ∙ sym there))

-- adding to the rest is adding to the number
pub modulo-plus : (c : ℕ) → 0 < c → (z l : ℤ) → modulo (pos (modulo z c) +ℤ l) c ≡ modulo (z +ℤ l) c
modulo-plus c h z l =
    let w = rest-away c h z in
    let swapped : (x : ℤ) → x +ℤ pos (w.0 * c) +ℤ l ≡ x +ℤ l +ℤ pos (w.0 * c) = λ x.
    +ℤ_assoc x (pos (w.0 * c)) l ∙ ap (λ (y : ℤ). x +ℤ y) (+ℤ_comm (pos (w.0 * c)) l) ∙ sym (+ℤ_assoc x l (pos (w.0 * c))) in
    either w.1
    (λ e. ap (λ (y : ℤ). modulo (y +ℤ l) c) e ∙ ap (λ (y : ℤ). modulo y c) (swapped z) ∙ modulo-rounds c h w.0 (z +ℤ l))
    (λ e.
    sym (ap (λ (y : ℤ). modulo (y +ℤ l) c) e ∙ ap (λ (y : ℤ). modulo y c) (swapped (pos (modulo z c))) ∙ modulo-rounds c h w.0 (pos (modulo z c) +ℤ l)))

-- ---- round a circuit of c

pub around-below : (c r : ℕ) (k : ℤ) → 0 < c → around c r k < c
unfolding around
around-below c r k h = modulo-below c h (pos r +ℤ k)

-- no step stays
pub around-none : (c r : ℕ) → r < c → around c r (pos 0) ≡ r
unfolding around
around-none c r h = rw (+ℤ_idr (pos r)) (modulo-small c r h)

-- two steps are their sum
pub around-twice : (c r : ℕ) (k l : ℤ) → 0 < c → around c (around c r k) l ≡ around c r (k +ℤ l)
unfolding around
around-twice c r k l h = modulo-plus c h (pos r +ℤ k) l ∙ ap (λ (y : ℤ). modulo y c) (+ℤ_assoc (pos r) k l)

-- what code computes: k steps on, and k + 1 steps back
pub around-ahead : (c r k : ℕ) → around c r (pos k) ≡ (r + k % c) % c
unfolding around modulo
around-ahead c r k = sym (add-mod-mod r k c)

pub around-behind : (c r k : ℕ) → 0 < c → around c r (negsuc k) ≡ (r + from_end c (k % c)) % c
unfolding around modulo
around-behind c r k h =
    ap (λ (y : ℤ). modulo y c) (+ℤ_comm (pos r) (negsuc k)) ∙ sym (modulo-plus c h (negsuc k) (pos r)) ∙ ap (λ (x : ℕ). x % c) (omega arith)

-- the same by the steps themselves: they are the rest of a round ahead
pub around-back : (c r k : ℕ) → 0 < c → around c r (negsuc k) ≡ (r + (c - suc k % c)) % c
around-back c r k h =
    let one : 1 + k ≡ suc k = omega arith in
    let more : suc k % c ≡ (1 + k % c) % c = ap (λ (x : ℕ). x % c) (sym one) ∙ sym (add-mod-mod 1 k c) in
    around-behind c r k h
    ∙ either (below? (1 + k % c) c)
    (λ b. let e : (1 + k % c) % c ≡ 1 + k % c = mod-eq_of_lt b in ap (λ (x : ℕ). (r + x) % c) (omega arith))
    (λ b.
    let whole : 1 + k % c ≡ c = omega (arith, mod-lt k h) in
    let none : suc k % c ≡ 0 = more ∙ ap (λ (x : ℕ). x % c) whole ∙ mod_self c in
    let here : r + from_end c (k % c) ≡ r = omega arith in
    let round : r + (c - suc k % c) ≡ r + c = omega arith in
    ap (λ (x : ℕ). x % c) here ∙ sym (ap (λ (x : ℕ). x % c) round ∙ add-mod_right r c))

-- one step on is the next rank
pub around-next : (n r : ℕ) → r < count n → around (count n) r (pos 1) ≡ next_rank n r
unfolding next_rank around
around-next n r h =
    either (same? (suc r) (count n))
    (λ e. only-rest (count n) 0 1 (pos r +ℤ pos 1) (omega arith) (inr (ap pos (omega arith))) ∙ sym (is_same (suc r) (count n) 0 (suc r) e))
    (λ d. modulo-small (count n) (r + 1) (omega arith) ∙ sym (is-other (suc r) (count n) 0 (suc r) d ∙ omega arith))

-- one step back is the previous
pub around-previous : (n r : ℕ) → r < count n → around (count n) r (negsuc 0) ≡ previous_rank n r
unfolding previous_rank around
around-previous n zero h =
    let c = count n in
    let end : suc (before c) ≡ c = suc-before c h in
    let back : pos (before c) ≡ negsuc 0 +ℤ pos (1 * c) = ap pos (omega arith) ∙ sym (+ℤ_comm (negsuc 0) (pos (1 * c)) ∙ minus-more (1 * c) 0 (omega arith)) in
    only-rest c (before c) 1 (negsuc 0) (omega arith) (inl back) ∙ sym (is_same 0 0 (before c) 0 refl)
around-previous n (suc r) h =
    let less : suc r - 1 ≡ r = omega arith in
    rw (minus-more (suc r) 0 (omega arith), less) (modulo-small (count n) r (omega arith) ∙ sym (is-other (suc r) 0 (before (count n)) r (omega arith)))
