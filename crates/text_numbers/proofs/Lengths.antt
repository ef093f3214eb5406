-- How long the text of a number is: at most k digits for a number below 10 ^ k, more for any other; at most 20 for 64 bits, and a number that has them.
-- Assumes nothing.
use mathlib.Core.Path.{◌≡◌, refl, sym, ap, ◌∙◌}
use mathlib.Core.List.{[], ◌∷◌}
use Prim.Native.Nat.{ℕ, zero, suc, ◌+◌, ◌/◌, ◌%◌, ◌^◌, ◌≤◌, ◌<◌}
use native.Mathlib.Nat.{mod-lt, div-add-mod'}
use native.Mathlib.Omega.{arith}
use lib.ListN.{length, length-append}
use Rattle.listing.specs.Limits.{largest64}
use Rattle.listing.proofs.Numbers.{either, below?}
use Rattle.text_numbers.specs.Decimal.{glyph, digit_in, onward, digits_of, number_in}
use Rattle.text_numbers.proofs.Digits.{digits-one, digits_more, by-tens}
use Rattle.text_numbers.proofs.Inverse.{digits-of-number}

-- a number below 10 has one digit
pub length-one : (n : ℕ) → n < 10 → length (digits_of n) ≡ 1
length-one n h = ap length (digits-one n h)

-- a number from 10 on has one digit more than its tens
pub length_more : (n : ℕ) → 10 ≤ n → length (digits_of n) ≡ length (digits_of (n / 10)) + 1
length_more n h = ap length (digits_more n h) ∙ length-append (digits_of (n / 10)) (glyph (n % 10) ∷ [])

-- every number has a digit
pub length_some : (n : ℕ) → 1 ≤ length (digits_of n)
length_some = by-tens (λ n. 1 ≤ length (digits_of n)) (λ n h. omega (arith, length-one n h)) (λ n h e. omega (arith, length_more n h))

-- a number below 10 ^ k has at most k digits
pub digits-at-most : (k n : ℕ) → n < 10 ^ suc k → length (digits_of n) ≤ suc k
digits-at-most zero n h = omega (arith, length-one n (omega arith))
digits-at-most (suc k) n h =
    either (below? n 10)
    (λ l. omega (arith, length-one n l))
    (λ l.
    let e : length (digits_of (n / 10)) ≤ suc k = digits-at-most k (n / 10) (omega (arith, div-add-mod' n 10)) in
    omega (arith, length_more n l))

-- a number from 10 ^ k on has more than k digits
pub digits_above : (k n : ℕ) → 10 ^ k ≤ n → k < length (digits_of n)
digits_above zero n h = length_some n
digits_above (suc k) n h =
    let one : 1 ≤ 10 ^ k = power k in
    let last : n % 10 < 10 = mod-lt n (omega arith) in
    let e : k < length (digits_of (n / 10)) = digits_above k (n / 10) (omega (arith, div-add-mod' n 10)) in
    omega (arith, length_more n (omega arith))
  where
    power : (j : ℕ) → 1 ≤ 10 ^ j
    power zero = omega arith
    power (suc j) = let e : 1 ≤ 10 ^ j = power j in omega arith

-- a larger number has no fewer digits
pub digits-no-fewer : (a b : ℕ) → a ≤ b → length (digits_of a) ≤ length (digits_of b)
digits-no-fewer =
    by-tens (λ a. (b : ℕ) → a ≤ b → length (digits_of a) ≤ length (digits_of b))
    (λ a h b l. omega (arith, length-one a h, length_some b))
    (λ a h e b l.
    let last : b % 10 < 10 = mod-lt b (omega arith) in
    let tens : length (digits_of (a / 10)) ≤ length (digits_of (b / 10)) = e (b / 10) (omega (arith, div-add-mod' a 10, div-add-mod' b 10)) in
    omega (arith, length_more a h, length_more b (omega arith)))

-- a number of 64 bits has at most 20 digits
pub digits-64 : (n : ℕ) → n ≤ largest64 → length (digits_of n) ≤ 20
digits-64 n h = digits-at-most 19 n (omega arith)

-- and the largest has 20
pub digits-largest : digits_of largest64 ≡
    49 ∷ 56 ∷ 52 ∷ 52 ∷ 54 ∷ 55 ∷ 52 ∷ 52 ∷ 48 ∷ 55 ∷ 51 ∷ 55 ∷ 48 ∷ 57 ∷ 53 ∷ 53 ∷ 49 ∷ 54 ∷ 49 ∷ 53 ∷ []
unfolding number_in onward digit_in
digits-largest = sym (digits-of-number _ largest64 refl)

-- so 20 digits are attained
pub largest-20 : length (digits_of largest64) ≡ 20
largest-20 = ap length digits-largest
