-- What a number's text looks like: one digit or more and no leading zero, and every such text is a number.
-- Assumes nothing.
use mathlib.Core.Path.{◌≡◌, refl, sym, ap, ◌∙◌}
use mathlib.Core.List.{List, [], ◌∷◌}
use mathlib.Core.Option.{Option, some}
use Prim.Native.Nat.{ℕ, zero, suc, ◌+◌, ◌-◌, ◌*◌, ◌≤◌, ◌<◌}
use native.Mathlib.Omega.{arith}
use lib.ListN.{length, get_or}
use Rattle.listing.proofs.Numbers.{either}
use Rattle.text_numbers.specs.Decimal.{Digit, Decimal, digits_of, digit_in, and_digit, onward, number_in}
use Rattle.text_numbers.proofs.Inverse.{none-some, OfDigit, digit-byte, digit-cases, and_parts, and_none, and-digit, onward-none, number-of-digits}

-- the byte of a digit is from `0` to `9`
of-digit-digit : {b : ℕ} → OfDigit b → Digit b
of-digit-digit x = (omega arith, omega arith)

-- ---- a number's text has the shape

-- where reading goes on to a number, every byte is a digit
onward-digits : (t : List ℕ) (o : Option ℕ) (n : ℕ) → onward o t ≡ some n → (j : ℕ) → j < length t → Digit (get_or t j 0)
unfolding onward
onward-digits [] o n e j h = absurd (omega arith)
onward-digits (b ∷ t) o n e zero h =
    either (digit-cases b)
    of-digit-digit
    (λ z. absurd (none-some n (sym (ap (λ p. onward (and_digit o p) t) z ∙ ap (λ p. onward p t) (and_none o) ∙ onward-none t) ∙ e)))
onward-digits (b ∷ t) o n e (suc j) h = onward-digits t (and_digit o (digit_in b)) n e j (omega arith)

-- the first byte of a text that goes on to a number is a digit
first-digit : (b : ℕ) (t : List ℕ) (n : ℕ) → onward (digit_in b) t ≡ some n → Digit b
first-digit b t n e =
    either (digit-cases b)
    of-digit-digit
    (λ z. absurd (none-some n (sym (ap (λ p. onward p t) z ∙ onward-none t) ∙ e)))

-- nothing follows a `0`
zero-first : (b c : ℕ) (t : List ℕ) (n : ℕ) → onward (digit_in b) (c ∷ t) ≡ some n → b ≡ 48 → ⊥
unfolding onward digit_in
zero-first b c t n e z =
    none-some n (sym (ap (λ y. onward (and_digit (digit_in y) (digit_in c)) t) z ∙ onward-none t) ∙ e)

-- a text that is a number is decimal, without leading zero
pub number-decimal : (t : List ℕ) (n : ℕ) → number_in t ≡ some n → Decimal t
unfolding number_in
number-decimal [] n e = absurd (none-some n e)
number-decimal (b ∷ []) n e = record { bytes = omega arith; digits = only; front = λ h. absurd (omega arith) }
  where
    only : (j : ℕ) → j < length (b ∷ []) → Digit (get_or (b ∷ []) j 0)
    only zero h = first-digit b [] n e
    only (suc j) h = absurd (omega arith)
number-decimal (b ∷ c ∷ t) n e = record { bytes = omega arith; digits = all; front = λ h. zero-first b c t n e }
  where
    all : (j : ℕ) → j < length (b ∷ c ∷ t) → Digit (get_or (b ∷ c ∷ t) j 0)
    all zero h = first-digit b (c ∷ t) n e
    all (suc j) h = onward-digits (c ∷ t) (digit_in b) n e j (omega arith)

-- so the text of a number is digits only
pub digits_decimal : (n : ℕ) → Decimal (digits_of n)
digits_decimal n = number-decimal (digits_of n) n (number-of-digits n)

-- ---- every text of the shape is a number's

-- a number from 1 on goes on over digits to a number
onward-number : (t : List ℕ) (v : ℕ) → 1 ≤ v → ((j : ℕ) → j < length t → Digit (get_or t j 0)) → (n : ℕ) × (onward (some v) t ≡ some n)
unfolding onward
onward-number [] v h d = (v, refl)
onward-number (b ∷ t) v h d =
    let x : Digit b = d 0 (omega arith) in
    let r = onward-number t (v * 10 + (b - 48)) (omega arith) (λ j l. d (suc j) (omega arith)) in
    (r.0, ap (λ o. onward o t) (and_parts {o = some v} refl (digit-byte b x.0 (omega arith)) ∙ and-digit v (b - 48) h) ∙ r.1)

-- a text that is decimal, without leading zero, is a number
pub decimal-number : (t : List ℕ) → Decimal t → (n : ℕ) × (number_in t ≡ some n)
unfolding number_in onward
decimal-number [] D = absurd (omega (arith, D.bytes))
decimal-number (b ∷ []) D = let x : Digit b = D.digits 0 (omega arith) in (b - 48, digit-byte b x.0 (omega arith))
decimal-number (b ∷ c ∷ t) D =
    let x : Digit b = D.digits 0 (omega arith) in
    let r = onward-number (c ∷ t) (b - 48) (omega (arith, D.front (omega arith))) (λ j l. D.digits (suc j) (omega arith)) in
    (r.0, ap (λ o. onward o (c ∷ t)) (digit-byte b x.0 (omega arith)) ∙ r.1)
