-- What each answer of the calls says: a number or none, a signed number or none, a number's text.
-- Assumes nothing.
use Rattle.std.specs.Prelude.{ℕ, ◌≡◌, length}
use Rattle.std.proofs.Math.Option.{Option}
use Rattle.text_numbers.specs.Decimal.{digits_of, most_digits}
use Rattle.text_numbers.specs.declared.Text.{Text}
use Rattle.words.specs.Maybe.{option_is}
use Rattle.words.specs.Padded.{padded}
use Rattle.words.specs.declared.Signed.{Signed}
use Rattle.std.specs.declared.option.Option.{Option as Maybe}

-- a number, or none
abbrev pub read_is : Maybe ℕ → Option ℕ
read_is r = option_is r

-- a signed number, or none
abbrev pub signed_is : Maybe Signed → Option Signed
signed_is r = option_is r

-- r is the text of n: the digits of n at its front, and how many they are; the bytes after them are 0
pub record TextOf (n : ℕ) (r : Text) : Type 0 where
  pub bytes : r.bytes ≡ padded most_digits 0 (digits_of n)
  pub len : r.len ≡ length (digits_of n)
