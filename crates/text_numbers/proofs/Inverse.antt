-- The text of a number and the number of a text are inverse, both ways: `number-of-digits`, `digits-of-number`.
-- Assumes nothing.
use mathlib.Core.Path.{◌≡◌, refl, sym, ap, ◌∙◌}
use mathlib.Core.Bool.{true≢false}
use mathlib.Core.Logic.{◌⊎◌, inl, inr}
use mathlib.Core.List.{List, [], ◌∷◌, ◌++◌, append-nil}
use mathlib.Core.Option.{Option, none, some}
use Prim.Native.Nat.{ℕ, zero, suc, ◌+◌, ◌-◌, ◌*◌, ◌/◌, ◌%◌, ◌≤◌, ◌<◌}
use native.Mathlib.Nat.{mod-lt, mod-eq_of_lt, div-eq_of_lt, div-add-mod', mul-add-div_right, mul-add-mod_self_right}
use native.Mathlib.Omega.{arith}
use lib.Seq.{append_snoc}
use borrow.Author.Tests.{lt-ltb, le-ltb}
use Rattle.listing.proofs.Numbers.{either, below?}
use Rattle.text_numbers.specs.Decimal.{glyph, digits_of, digit_in, and_digit, onward, number_in}
use Rattle.text_numbers.proofs.Digits.{digits-one, digits_more, by-tens}

-- something is not none
pub none-some : {A : Type 0} (a : A) → none ≡ some a → ⊥
none-some a e = true≢false (cc)

-- ---- digits

-- a byte from `0` to `9` is a digit
pub digit-byte : (b : ℕ) → 48 ≤ b → b < 58 → digit_in b ≡ some (b - 48)
unfolding digit_in
digit-byte b low high = rw (le-ltb b 48 low, lt-ltb b 58 high)

-- the byte of a digit is that digit
pub digit_glyph : (d : ℕ) → d < 10 → digit_in (glyph d) ≡ some d
digit_glyph d h = digit-byte (glyph d) (omega arith) (omega arith) ∙ ap some (omega arith)

-- any other byte is no digit
pub no_digit : (b : ℕ) → (b < 48) ⊎ (58 ≤ b) → digit_in b ≡ none
unfolding digit_in
no_digit b (inl low) = rw (lt-ltb b 48 low)
no_digit b (inr high) = rw (le-ltb b 48 (omega arith), le-ltb b 58 high)

-- b is the byte of a digit
pub record OfDigit (b : ℕ) : Type 0 where
  pub digit : ℕ
  pub small : digit < 10
  pub byte : b ≡ glyph digit

-- such a byte is that digit
pub of-digit : {b : ℕ} (x : OfDigit b) → digit_in b ≡ some x.digit
of-digit x = ap digit_in x.byte ∙ digit_glyph x.digit x.small

-- a byte is the byte of a digit, or no digit
pub digit-cases : (b : ℕ) → OfDigit b ⊎ (digit_in b ≡ none)
digit-cases b =
    either (below? b 48)
    (λ low. inr (no_digit b (inl low)))
    (λ l. either (below? b 58) (λ h. inl (record { digit = b - 48; small = omega arith; byte = omega arith })) (λ high. inr (no_digit b (inr high))))

-- ---- one digit more

-- a number from 1 on and one digit more
pub and-digit : (v d : ℕ) → 1 ≤ v → and_digit (some v) (some d) ≡ some (v * 10 + d)
and-digit zero d h = absurd (omega arith)
and-digit (suc u) d h = refl

-- the same number and the same digit give the same
pub and_parts : {o v p d : Option ℕ} → o ≡ v → p ≡ d → and_digit o p ≡ and_digit v d
and_parts e f = cc

-- without a digit there is no number
pub and_none : (o : Option ℕ) → and_digit o none ≡ none
and_none none = refl
and_none (some zero) = refl
and_none (some (suc u)) = refl

-- the byte b after v makes a number: v is not 0, and b is the byte of a digit
pub record More (v b : ℕ) : Type 0 where
  pub positive : 1 ≤ v
  pub last : OfDigit b
  pub gives : and_digit (some v) (digit_in b) ≡ some (v * 10 + last.digit)

-- a byte after v makes a number, or none
pub byte_more : (v b : ℕ) → More v b ⊎ (and_digit (some v) (digit_in b) ≡ none)
byte_more zero b = inr refl
byte_more (suc u) b =
    either (digit-cases b)
    (λ x. inl (record { positive = omega arith; last = x; gives = ap (and_digit (some (suc u))) (of-digit x) }))
    (λ e. inr (ap (and_digit (some (suc u))) e))

-- ---- many

-- what is no number stays none
pub onward-none : (t : List ℕ) → onward none t ≡ none
unfolding onward
onward-none [] = refl
onward-none (b ∷ t) = onward-none t

-- text after text
onward-append : (o : Option ℕ) (s t : List ℕ) → onward o (s ++ t) ≡ onward (onward o s) t
unfolding onward
onward-append o [] t = refl
onward-append o (b ∷ s) t = onward-append (and_digit o (digit_in b)) s t

-- a number's text and more text after it
pub number_append : (s t : List ℕ) (v : ℕ) → number_in s ≡ some v → number_in (s ++ t) ≡ onward (some v) t
unfolding number_in
number_append [] t v e = cc
number_append (b ∷ s) t v e = onward-append (digit_in b) s t ∙ ap (λ o. onward o t) e

-- ---- the number of a number's text is the number

-- of one digit
number-one : (n : ℕ) → n < 10 → number_in (digits_of n) ≡ some n
unfolding number_in onward
number-one n h = ap number_in (digits-one n h) ∙ digit_glyph n h

-- of more, if of its tens
number_more : (n : ℕ) → 10 ≤ n → number_in (digits_of (n / 10)) ≡ some (n / 10) → number_in (digits_of n) ≡ some n
unfolding onward
number_more n h e =
    let last : n % 10 < 10 = mod-lt n (omega arith) in
    let whole : n / 10 * 10 + n % 10 ≡ n = div-add-mod' n 10 in
    ap number_in (digits_more n h)
    ∙ number_append (digits_of (n / 10)) (glyph (n % 10) ∷ []) (n / 10) e
    ∙ ap (and_digit (some (n / 10))) (digit_glyph (n % 10) last)
    ∙ and-digit (n / 10) (n % 10) (omega arith)
    ∙ ap some whole

-- the number of the text of a number is that number
pub number-of-digits : (n : ℕ) → number_in (digits_of n) ≡ some n
number-of-digits = by-tens (λ n. number_in (digits_of n) ≡ some n) number-one number_more

-- ---- a number has one text

-- the text of a number from 1 on and one digit more is the text of ten times the number and the digit
pub digits-snoc : (v d : ℕ) → 1 ≤ v → d < 10 → digits_of v ++ (glyph d ∷ []) ≡ digits_of (v * 10 + d)
digits-snoc v d h l =
    let tens : (v * 10 + d) / 10 ≡ v = mul-add-div_right (omega arith) v d ∙ (omega (arith, div-eq_of_lt l)) in
    let last : (v * 10 + d) % 10 ≡ d = mul-add-mod_self_right v 10 d ∙ mod-eq_of_lt l in
    sym (digits_more (v * 10 + d) (omega arith) ∙ rw (tens, last))

-- where a number's text goes on to a number, the whole is the text of that number
digits-onward : (t s : List ℕ) (v n : ℕ) → s ≡ digits_of v → onward (some v) t ≡ some n → s ++ t ≡ digits_of n
unfolding onward
digits-onward [] s v n e f = append-nil s ∙ e ∙ ap digits_of (cc)
digits-onward (b ∷ t) s v n e f =
    either (byte_more v b)
    (λ x.
    sym (append_snoc s b t)
    ∙ digits-onward t (s ++ (b ∷ [])) (v * 10 + x.last.digit) n
    (ap (λ l. l ++ (b ∷ [])) e ∙ ap (λ y. digits_of v ++ (y ∷ [])) x.last.byte ∙ digits-snoc v x.last.digit x.positive x.last.small)
    (sym (ap (λ o. onward o t) x.gives) ∙ f))
    (λ z. absurd (none-some n (sym (ap (λ o. onward o t) z ∙ onward-none t) ∙ f)))

-- a text that is a number is the text of that number
pub digits-of-number : (t : List ℕ) (n : ℕ) → number_in t ≡ some n → t ≡ digits_of n
unfolding number_in
digits-of-number [] n e = absurd (none-some n e)
digits-of-number (b ∷ t) n e =
    either (digit-cases b)
    (λ x.
    digits-onward t (b ∷ []) x.digit n (ap (λ y. y ∷ []) x.byte ∙ sym (digits-one x.digit x.small))
    (sym (ap (λ o. onward o t) (of-digit x)) ∙ e))
    (λ z. absurd (none-some n (sym (ap (λ o. onward o t) z ∙ onward-none t) ∙ e)))

-- two numbers of the same text are the same
pub digits-once : (m n : ℕ) → digits_of m ≡ digits_of n → m ≡ n
digits-once m n e = let f : some m ≡ some n = sym (number-of-digits m) ∙ ap number_in e ∙ number-of-digits n in cc
