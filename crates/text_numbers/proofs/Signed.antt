-- The text of a signed number and the signed number of a text are inverse, both ways: `signed-of-digits`, `digits-of-signed`.
-- Assumes nothing.
use mathlib.Core.Path.{◌≡◌, refl, sym, ap, ◌∙◌}
use mathlib.Core.Bool.{Bool, true, false, true≢false}
use mathlib.Core.Logic.{inl}
use mathlib.Core.List.{List, [], ◌∷◌}
use mathlib.Core.Option.{Option, none, some}
use Prim.Native.Nat.{ℕ, zero, suc, ◌≤◌, ◌<◌}
use native.Mathlib.Omega.{arith}
use borrow.Author.Tests.{eq-eqb, ne_eqb}
use lib.ListN.{take, drop}
use lib.Dec.{eqb}
use Rattle.listing.proofs.Numbers.{either, same?}
use Rattle.text_numbers.specs.Decimal.{digits_of, onward, number_in, up_to, number_up_to}
use Rattle.std.specs.Cmp.Lexicographic.{pointwise}
use Rattle.words.specs.Signs.{ahead, behind, Proper}
use Rattle.words.specs.declared.Signed.{Signed}
use Rattle.text_numbers.specs.Signed.{minus, signed_digits, plain, negative, signed_up_to}
use Rattle.text_numbers.proofs.Inverse.{none-some, no_digit, onward-none}
use Rattle.text_numbers.proofs.Limits.{none-up-to, number-empty, number-up-to, digits-up-to}

-- ---- the sign

-- `-` before 0 says nothing
pub negative-zero : (m : ℕ) → m < 1 → negative (some m) ≡ none
negative-zero zero h = refl
negative-zero (suc k) h = absurd (omega arith)

-- before any other magnitude it says behind
pub negative-some : (m : ℕ) → 1 ≤ m → negative (some m) ≡ some (behind m)
negative-some zero h = absurd (omega arith)
negative-some (suc k) h = refl

-- a text that begins with `-` is no number
pub minus_number : (most : ℕ) (t : List ℕ) → number_up_to most (minus ∷ t) ≡ none
unfolding number_in
minus_number most t = ap (up_to most) (ap (λ o. onward o t) (no_digit minus (inl (omega arith))) ∙ onward-none t) ∙ none-up-to most

-- ---- the first byte

-- with `-` first the rest is the magnitude
pub signed-minus : (most : ℕ) (t : List ℕ) → pointwise eqb (take 1 t) (minus ∷ []) ≡ true → signed_up_to most t ≡ negative (number_up_to most (drop 1 t))
unfolding signed_up_to
signed-minus most [] e = absurd (true≢false (sym e))
signed-minus most (b ∷ t) e = either (same? b minus) (λ s. rw (eq-eqb b minus s)) (λ d. absurd (true≢false (sym (rw (ne_eqb b minus d) at e))))

-- with any other byte first, or none, the whole is the magnitude
pub signed-plain : (most : ℕ) (t : List ℕ) → pointwise eqb (take 1 t) (minus ∷ []) ≡ false → signed_up_to most t ≡ plain (number_up_to most t)
unfolding signed_up_to
signed-plain most [] e = ap plain (sym (ap (up_to most) (number-empty [] (omega arith)) ∙ none-up-to most))
signed-plain most (b ∷ t) e = either (same? b minus) (λ s. absurd (true≢false (rw (eq-eqb b minus s) at e))) (λ d. rw (ne_eqb b minus d))

-- ---- both ways

-- a text that is a number is that number ahead
signed-number : (most : ℕ) (t : List ℕ) (n : ℕ) → number_up_to most t ≡ some n → signed_up_to most t ≡ some (ahead n)
unfolding signed_up_to number_in
signed-number most [] n e = absurd (none-some n (sym (none-up-to most) ∙ e))
signed-number most (b ∷ t) n e =
    either (same? b minus)
    (λ s. absurd (none-some n (sym (minus_number most t) ∙ ap (λ y. number_up_to most (y ∷ t)) (sym s) ∙ e)))
    (λ d. rw (ne_eqb b minus d) (ap plain e))

-- the signed number of the text of a signed number is that signed number
signed_by : (most : ℕ) (back : Bool) (n : ℕ) → let s : Signed = record { back = back; magnitude = n } in
    Proper s → n ≤ most → signed_up_to most (signed_digits s) ≡ some s
unfolding signed_up_to
signed_by most false n p h = signed-number most (digits_of n) n (number-up-to most n h)
signed_by most true n p h = ap negative (number-up-to most n h) ∙ negative-some n (p refl)

pub signed-of-digits : (most : ℕ) (s : Signed) → Proper s → s.magnitude ≤ most → signed_up_to most (signed_digits s) ≡ some s
signed-of-digits most s p h = signed_by most s.back s.magnitude p h

-- what a signed number that was read says of its text
pub record Spelt (most : ℕ) (t : List ℕ) (s : Signed) : Type 0 where
  pub text : t ≡ signed_digits s
  pub proper : Proper s
  pub within : s.magnitude ≤ most

-- what was read without `-`
spelt-plain : (most : ℕ) (t : List ℕ) (o : Option ℕ) (s : Signed) → number_up_to most t ≡ o → plain o ≡ some s → Spelt most t s
spelt-plain most t none s e f = absurd (none-some s f)
spelt-plain most t (some n) s e f =
    let x = digits-up-to most t n e in
    let g : ahead n ≡ s = cc in rw (sym g) (record { text = x.0; proper = λ e. absurd (true≢false (sym e)); within = x.1 })

-- what was read with it
spelt-negative : (most : ℕ) (t : List ℕ) (o : Option ℕ) (s : Signed) → number_up_to most t ≡ o → negative o ≡ some s → Spelt most (minus ∷ t) s
spelt-negative most t none s e f = absurd (none-some s f)
spelt-negative most t (some zero) s e f = absurd (none-some s f)
spelt-negative most t (some (suc k)) s e f =
    let x = digits-up-to most t (suc k) e in
    let g : behind (suc k) ≡ s = cc in rw (sym g) (record { text = ap (λ l. minus ∷ l) x.0; proper = λ e. omega arith; within = x.1 })

-- a text that is a signed number is the text of that signed number, which is not behind by 0
pub digits-of-signed : (most : ℕ) (t : List ℕ) (s : Signed) → signed_up_to most t ≡ some s → Spelt most t s
unfolding signed_up_to
digits-of-signed most [] s e = absurd (none-some s e)
digits-of-signed most (b ∷ t) s e =
    either (same? b minus)
    (λ m. rw m (spelt-negative most t (number_up_to most t) s refl (rw (eq-eqb b minus m) at e)))
    (λ d. spelt-plain most (b ∷ t) (number_up_to most (b ∷ t)) s refl (rw (ne_eqb b minus d) at e))
