-- Texts, good and bad, beside what each is: a table of numbers, a table of signed numbers, and one theorem for each.
-- Assumes nothing.
use mathlib.Core.Path.{◌≡◌, refl}
use mathlib.Core.List.{List, [], ◌∷◌, ◌++◌, map}
use mathlib.Core.Option.{Option, none, some}
use Prim.Native.Nat.{ℕ}
use lib.ListN.{replicate}
use Rattle.listing.specs.Limits.{largest64}
use Rattle.text_numbers.specs.Decimal.{digit_in, onward, number_in, up_to, number_up_to}
use Rattle.words.specs.Signs.{ahead, behind}
use Rattle.words.specs.declared.Signed.{Signed}
use Rattle.text_numbers.specs.Signed.{minus, signed_up_to}

-- a text beside what it is
pub record Case (A : Type 0) : Type 0 where
  pub text : List ℕ
  pub is : Option A

-- every text of a table is what stands beside it
abbrev pub Hold : {A : Type 0} → (List ℕ → Option A) → List (Case A) → Type 0
Hold f cases = map (λ c. f c.text) cases ≡ map (λ c. c.is) cases

-- 1844674407370955161, the digits that the largest number of 64 bits begins with
abbrev pub all_but_one : List ℕ
all_but_one = 49 ∷ 56 ∷ 52 ∷ 52 ∷ 54 ∷ 55 ∷ 52 ∷ 52 ∷ 48 ∷ 55 ∷ 51 ∷ 55 ∷ 48 ∷ 57 ∷ 53 ∷ 53 ∷ 49 ∷ 54 ∷ 49 ∷ []

-- no byte, `0`, `4`, `20`, `04`, `00`, `+4`, `-1`, ` 4`, `4` and a space, `4` and a carriage return, `4` and NUL, NUL, `4` and byte 200, `/`, `:`, `a`,
-- 18446744073709551615, 18446744073709551616, 18446744073709551620, 30 digits
abbrev pub numbers : List (Case ℕ)
numbers =
    record { text = []; is = none }
    ∷ record { text = 48 ∷ []; is = some 0 }
    ∷ record { text = 52 ∷ []; is = some 4 }
    ∷ record { text = 50 ∷ 48 ∷ []; is = some 20 }
    ∷ record { text = 48 ∷ 52 ∷ []; is = none }
    ∷ record { text = 48 ∷ 48 ∷ []; is = none }
    ∷ record { text = 43 ∷ 52 ∷ []; is = none }
    ∷ record { text = 45 ∷ 49 ∷ []; is = none }
    ∷ record { text = 32 ∷ 52 ∷ []; is = none }
    ∷ record { text = 52 ∷ 32 ∷ []; is = none }
    ∷ record { text = 52 ∷ 13 ∷ []; is = none }
    ∷ record { text = 52 ∷ 0 ∷ []; is = none }
    ∷ record { text = 0 ∷ []; is = none }
    ∷ record { text = 52 ∷ 200 ∷ []; is = none }
    ∷ record { text = 47 ∷ []; is = none }
    ∷ record { text = 58 ∷ []; is = none }
    ∷ record { text = 97 ∷ []; is = none }
    ∷ record { text = all_but_one ++ (53 ∷ []); is = some 18446744073709551615 }
    ∷ record { text = all_but_one ++ (54 ∷ []); is = none }
    ∷ record { text = 49 ∷ 56 ∷ 52 ∷ 52 ∷ 54 ∷ 55 ∷ 52 ∷ 52 ∷ 48 ∷ 55 ∷ 51 ∷ 55 ∷ 48 ∷ 57 ∷ 53 ∷ 53 ∷ 49 ∷ 54 ∷ 50 ∷ 48 ∷ []; is = none }
    ∷ record { text = replicate 30 49; is = none }
    ∷ []

-- each of these is what stands beside it
pub numbers-hold : Hold (number_up_to largest64) numbers
unfolding digit_in onward number_in up_to
numbers-hold = refl

-- no byte, `-`, `0`, `-0`, `-00`, `-04`, `--4`, `+4`, `8`, `-8`, -18446744073709551615, -18446744073709551616
abbrev pub signed : List (Case Signed)
signed =
    record { text = []; is = none }
    ∷ record { text = minus ∷ []; is = none }
    ∷ record { text = 48 ∷ []; is = some (ahead 0) }
    ∷ record { text = minus ∷ 48 ∷ []; is = none }
    ∷ record { text = minus ∷ 48 ∷ 48 ∷ []; is = none }
    ∷ record { text = minus ∷ 48 ∷ 52 ∷ []; is = none }
    ∷ record { text = minus ∷ minus ∷ 52 ∷ []; is = none }
    ∷ record { text = 43 ∷ 52 ∷ []; is = none }
    ∷ record { text = 56 ∷ []; is = some (ahead 8) }
    ∷ record { text = minus ∷ 56 ∷ []; is = some (behind 8) }
    ∷ record { text = minus ∷ all_but_one ++ (53 ∷ []); is = some (behind 18446744073709551615) }
    ∷ record { text = minus ∷ all_but_one ++ (54 ∷ []); is = none }
    ∷ []

-- and each of these
pub signed-hold : Hold (signed_up_to largest64) signed
unfolding digit_in onward number_in up_to signed_up_to
signed-hold = refl
