-- Signed numbers as text (the paper, 'Plans': '`-` only before a non-zero run; 64 bits unsigned for the magnitude').
-- Assumes nothing.
use Rattle.std.specs.Prelude.{ℕ, zero, suc, cond, List, [], ◌∷◌, eqb}
use Rattle.std.proofs.Math.Option.{Option, none, some}
use Rattle.words.specs.Signs.{ahead, behind}
use Rattle.words.specs.declared.Signed.{Signed}
use Rattle.text_numbers.specs.Decimal.{digits_of, number_up_to}

-- the byte `-`
abbrev pub minus : ℕ
minus = 45

-- the text of a signed number: its magnitude, with `-` before one that is behind
abbrev pub signed_digits : Signed → List ℕ
signed_digits s = cond s.back (minus ∷ digits_of s.magnitude) (digits_of s.magnitude)

-- what a magnitude says without `-` before it
abbrev pub plain : Option ℕ → Option Signed
plain none = none
plain (some n) = some (ahead n)

-- what it says with `-` before it: '`-` only before a non-zero run'
abbrev pub negative : Option ℕ → Option Signed
negative none = none
negative (some zero) = none
negative (some (suc n)) = some (behind (suc n))

-- the signed number that a text is, its magnitude up to `most`
unfoldable pub signed_up_to : ℕ → List ℕ → Option Signed
signed_up_to most [] = none
signed_up_to most (b ∷ t) = cond (eqb b minus) (negative (number_up_to most t)) (plain (number_up_to most (b ∷ t)))
