-- Nothing else meets the calls' contracts: two answers that say the same are the same.
-- Assumes nothing.
use mathlib.Core.Path.{◌≡◌, sym, ap, ◌∙◌}
use mathlib.Core.List.{List}
use Prim.Native.Nat.{ℕ}
use lib.ListN.{length}
use Rattle.listing.specs.Limits.{largest64}
use Rattle.text_numbers.specs.Decimal.{digits_of, number_up_to}
use Rattle.text_numbers.specs.Signed.{signed_up_to}
use Rattle.text_numbers.specs.Answers.{read_is, signed_is, TextOf}
use Rattle.text_numbers.specs.declared.Text.{Text}
use Rattle.std.specs.declared.option.Option.{Option}
use Rattle.words.proofs.Once.{option-once}
use Rattle.words.specs.declared.Signed.{Signed}

-- two answers of a reader that say the same number are the same
read-once : (r s : Option ℕ) → read_is r ≡ read_is s → r ≡ s
read-once = option-once

-- and two that say the same signed number
signed-once : (r s : Option Signed) → signed_is r ≡ signed_is s → r ≡ s
signed-once = option-once

-- one answer meets `read_number`'s contract
pub only-read-number : (t : List ℕ) (r s : Option ℕ) → read_is r ≡ number_up_to largest64 t → read_is s ≡ number_up_to largest64 t → r ≡ s
only-read-number t r s e f = read-once r s (e ∙ sym f)

-- one meets `read_signed`'s
pub only-read-signed : (t : List ℕ) (r s : Option Signed) → signed_is r ≡ signed_up_to largest64 t → signed_is s ≡ signed_up_to largest64 t → r ≡ s
only-read-signed t r s e f = signed-once r s (e ∙ sym f)

-- one meets `places`'s
pub only-places : (n r s : ℕ) → r ≡ length (digits_of n) → s ≡ length (digits_of n) → r ≡ s
only-places n r s e f = e ∙ sym f

-- a text by its bytes and its length
text : List ℕ → ℕ → Text
text b l = record { bytes = b; len = l }

-- one meets `digits`'s, every byte of its array included
pub only-digits : (n : ℕ) (r s : Text) → TextOf n r → TextOf n s → r ≡ s
unfolding text
only-digits n r s e f =
    let l : r.len ≡ s.len = e.len ∙ sym f.len in
    let b : r.bytes ≡ s.bytes = e.bytes ∙ sym f.bytes in
    ap (λ x. text x r.len) b ∙ ap (text s.bytes) l
