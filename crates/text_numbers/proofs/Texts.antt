-- A number's text in an array: digits set from the last to the first, and what the text at the front gives a caller.
-- Assumes nothing.
use mathlib.Core.Path.{◌≡◌, sym, ap, ◌∙◌}
use mathlib.Core.List.{List, ◌∷◌, ◌++◌}
use Prim.Native.Nat.{ℕ, zero, suc, ◌+◌, ◌-◌, ◌/◌, ◌%◌, ◌≤◌, ◌<◌}
use native.Mathlib.Omega.{arith}
use lib.ListN.{length, take, drop, set, replicate}
use lib.Seq.{append_snoc, drop-cons, get_or-set_same, drop-set-lt, lt-length-set, set_split, take_at}
use Rattle.words.specs.Padded.{padded}
use Rattle.text_numbers.specs.Decimal.{glyph, digits_of, most_digits}
use Rattle.text_numbers.specs.Answers.{TextOf}
use Rattle.text_numbers.specs.declared.Text.{Text}
use Rattle.text_numbers.proofs.Digits.{digits-one, digits_more}
use Rattle.text_numbers.proofs.Lengths.{length-one, length_more}

-- what is left of n zeros without the first k
drop-zeros : (k n : ℕ) → drop {A = ℕ} k (replicate n 0) ≡ replicate (n - k) 0
drop-zeros zero n = let e : n - 0 ≡ n = omega arith in rw e
drop-zeros (suc k) zero = let e : 0 - suc k ≡ 0 = omega arith in rw e
drop-zeros (suc k) (suc n) = let e : suc n - suc k ≡ n - k = omega arith in rw e (drop-zeros k n)

-- from where an entry was set on: the entry and what stood after it
drop-set : (bytes : List ℕ) (at g : ℕ) → at < length bytes → drop at (set bytes at g) ≡ g ∷ drop (suc at) bytes
drop-set bytes at g l =
    drop-cons (set bytes at g) at 0 (lt-length-set bytes at g l)
    ∙ ap (λ x. x ∷ drop (suc at) (set bytes at g)) (get_or-set_same bytes at g 0 l)
    ∙ ap (λ s. g ∷ s) (drop-set-lt (suc at) bytes at g (omega arith))

-- the digits of r put over the front of an array
abbrev pub over_front : ℕ → List ℕ → List ℕ
over_front r bytes = digits_of r ++ drop (length (digits_of r)) bytes

-- the last digit of r is set at its place: then the digits of its tens over the front are the digits of r over the front
pub digit_set : (r : ℕ) (bytes : List ℕ) (at : ℕ) → 10 ≤ r → at + 1 ≡ length (digits_of r) → at < length bytes
    → over_front (r / 10) (set bytes at (glyph (r % 10))) ≡ over_front r bytes
digit_set r bytes at h e l =
    let g = glyph (r % 10) in
    let tens : length (digits_of (r / 10)) ≡ at = omega (arith, length_more r h) in
    let all : length (digits_of r) ≡ suc at = omega arith in
    rw (tens, drop-set bytes at g l, all, digits_more r h) (sym (append_snoc (digits_of (r / 10)) g (drop (suc at) bytes)))

-- a number below 10 is set at the front
pub first-set : (r : ℕ) (bytes : List ℕ) (at : ℕ) → r < 10 → at + 1 ≡ length (digits_of r) → at < length bytes → set bytes at (glyph r) ≡ over_front r bytes
first-set r bytes at h e l =
    let front : at ≡ 0 = omega (arith, length-one r h) in
    rw (length-one r h, digits-one r h, front) (set_split bytes 0 (glyph r) (omega arith))

-- over an array of zeros they are followed by zeros
pub over_zeros : (places n : ℕ) → over_front n (replicate places 0) ≡ padded places 0 (digits_of n)
over_zeros places n = ap (λ s. digits_of n ++ s) (drop-zeros (length (digits_of n)) places)

-- the front of a number's text is its digits
pub text-front : (n : ℕ) (r : Text) → TextOf n r → take r.len r.bytes ≡ digits_of n
text-front n r h = ap (take r.len) h.bytes ∙ take_at (digits_of n) (replicate (most_digits - length (digits_of n)) 0) r.len (sym h.len)
