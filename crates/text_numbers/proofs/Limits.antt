-- Numbers up to the largest that the device holds: both ways once more, and what a reader may conclude as soon as a number is too large.
-- Assumes nothing.
use mathlib.Core.Path.{◌≡◌, refl, sym, ap, ◌∙◌}
use mathlib.Core.List.{List, [], ◌∷◌}
use mathlib.Core.Option.{Option, none, some}
use Prim.Native.Nat.{ℕ, zero, suc, ◌+◌, ◌*◌, ◌≤◌, ◌<◌}
use native.Mathlib.Numerals.{add-one}
use native.Mathlib.Omega.{arith}
use lib.ListN.{length, get_or, drop, drop_of_length-le}
use lib.Seq.{drop-cons}
use borrow.Author.Tests.{le-leb, lt-leb}
use Rattle.listing.proofs.Numbers.{either, below?}
use Rattle.text_numbers.specs.Decimal.{digits_of, digit_in, and_digit, onward, number_in, up_to, number_up_to}
use Rattle.text_numbers.proofs.Inverse.{none-some, of-digit, digit-cases, and-digit, byte_more, onward-none, number-of-digits, digits-of-number}

module _ (most : ℕ) where
  -- ---- the largest number

  -- up to it a number stands
  pub within : (n : ℕ) → n ≤ most → up_to most (some n) ≡ some n
  unfolding up_to
  within n h = rw (le-leb n most h)

  -- above it there is none
  pub above : (n : ℕ) → most < n → up_to most (some n) ≡ none
  unfolding up_to
  above n h = rw (lt-leb n most h)

  -- no number, no number
  pub none-up-to : up_to most none ≡ none
  unfolding up_to
  none-up-to = refl

  -- what is given is a number, and not above
  pub up-to-some : (o : Option ℕ) (n : ℕ) → up_to most o ≡ some n → (o ≡ some n) × (n ≤ most)
  up-to-some none n e = absurd (none-some n (sym none-up-to ∙ e))
  up-to-some (some m) n e =
      either (below? most m)
      (λ h. absurd (none-some n (sym (above m h) ∙ e)))
      (λ h. let f : some m ≡ some n = sym (within m h) ∙ e in let g : m ≡ n = cc in (f, omega arith))

  -- once is enough
  pub up-to-twice : (o : Option ℕ) → up_to most (up_to most o) ≡ up_to most o
  up-to-twice none = ap (up_to most) none-up-to
  up-to-twice (some n) =
      either (below? most n)
      (λ h. ap (up_to most) (above n h) ∙ none-up-to ∙ sym (above n h))
      (λ h. ap (up_to most) (within n h))

  -- ---- both ways

  -- the number of the text of a number up to the largest is the number
  pub number-up-to : (n : ℕ) → n ≤ most → number_up_to most (digits_of n) ≡ some n
  number-up-to n h = ap (up_to most) (number-of-digits n) ∙ within n h

  -- a text that is a number up to the largest is the text of that number
  pub digits-up-to : (t : List ℕ) (n : ℕ) → number_up_to most t ≡ some n → (t ≡ digits_of n) × (n ≤ most)
  digits-up-to t n e = let x = up-to-some (number_in t) n e in (digits-of-number t n x.0, x.1)

  -- ---- byte by byte

  -- a number that is too large stays so, whatever follows
  pub onward-above : (t : List ℕ) (v : ℕ) → most < v → up_to most (onward (some v) t) ≡ none
  unfolding onward
  onward-above [] v h = above v h
  onward-above (b ∷ t) v h =
      either (byte_more v b)
      (λ x. ap (λ o. up_to most (onward o t)) x.gives ∙ onward-above t (v * 10 + x.last.digit) (omega arith))
      (λ z. ap (λ o. up_to most (onward o t)) z ∙ ap (up_to most) (onward-none t) ∙ none-up-to)

  -- so it may be judged at once
  pub judged-early : (o : Option ℕ) (t : List ℕ) → up_to most (onward (up_to most o) t) ≡ up_to most (onward o t)
  judged-early none t = ap (λ o. up_to most (onward o t)) none-up-to
  judged-early (some v) t =
      either (below? most v)
      (λ h. ap (λ o. up_to most (onward o t)) (above v h) ∙ ap (up_to most) (onward-none t) ∙ none-up-to ∙ sym (onward-above t v h))
      (λ h. ap (λ o. up_to most (onward o t)) (within v h))

  -- nothing follows a 0
  pub more-zero : (v d : ℕ) → v < 1 → up_to most (and_digit (some v) (some d)) ≡ none
  more-zero zero d h = none-up-to
  more-zero (suc u) d h = absurd (omega arith)

  -- one digit more, and it is too large
  pub more-above : (v d : ℕ) → 1 ≤ v → most < v * 10 + d → up_to most (and_digit (some v) (some d)) ≡ none
  more-above v d h l = ap (up_to most) (and-digit v d h) ∙ above (v * 10 + d) l

  -- one digit more, and it is not
  pub more_within : (v d : ℕ) → 1 ≤ v → v * 10 + d ≤ most → up_to most (and_digit (some v) (some d)) ≡ some (v * 10 + d)
  more_within v d h l = ap (up_to most) (and-digit v d h) ∙ within (v * 10 + d) l

  -- one byte more is read
  pub read-on : (t : List ℕ) (at : ℕ) (o : Option ℕ) → at < length t
      → up_to most (onward o (drop at t)) ≡ up_to most (onward (up_to most (and_digit o (digit_in (get_or t at 0)))) (drop (at + 1) t))
  unfolding onward
  read-on t at o h = rw (add-one, drop-cons t at 0 h) (sym (judged-early (and_digit o (digit_in (get_or t at 0))) (drop (suc at) t)))

  -- none is left
  pub read_all : (t : List ℕ) (at : ℕ) (o : Option ℕ) → length t ≤ at → up_to most (onward o (drop at t)) ≡ up_to most o
  unfolding onward
  read_all t at o h = rw (drop_of_length-le t h)

-- a digit is never too large
pub digit-within : (most b : ℕ) → 9 ≤ most → up_to most (digit_in b) ≡ digit_in b
digit-within most b h =
    either (digit-cases b)
    (λ x. ap (up_to most) (of-digit x) ∙ within most x.digit (omega (arith, x.small)) ∙ sym (of-digit x))
    (λ z. ap (up_to most) z ∙ none-up-to most ∙ sym z)

-- a text without bytes is no number
pub number-empty : (t : List ℕ) → length t < 1 → number_in t ≡ none
unfolding number_in
number-empty [] h = refl
number-empty (b ∷ t) h = absurd (omega arith)

-- any other begins with its first byte
pub number-first : (t : List ℕ) → 1 ≤ length t → number_in t ≡ onward (digit_in (get_or t 0 0)) (drop 1 t)
unfolding number_in
number-first [] h = absurd (omega arith)
number-first (b ∷ t) h = refl
