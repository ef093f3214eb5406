-- Decimal numbers as text (the paper, 'Plans': 'Numbers are decimal, without leading zero or plus'): the text of a number and the number of a text.
-- A text is the list of its bytes. The largest number of the device is a parameter.
-- Assumes nothing.
use Rattle.std.specs.Prelude.{ℕ, zero, suc, ◌+◌, ◌-◌, ◌*◌, ◌/◌, ◌%◌, ◌≤◌, ◌<◌, cond, List, [], ◌∷◌, ◌++◌, ◌≢◌, leb, ltb, length, get_or}
use Rattle.std.proofs.Math.Option.{Option, none, some}

-- ---- the text of a number

-- the byte of a digit: `0` is 48 and `9` is 57
abbrev pub glyph : ℕ → ℕ
glyph d = 48 + d

-- the text of n, its digits from the front, by at most k divisions
unfoldable pub spell : ℕ → ℕ → List ℕ
spell zero n = glyph n ∷ []
spell (suc k) n = let more = spell k (n / 10) ++ (glyph (n % 10) ∷ []) in cond (ltb n 10) (glyph n ∷ []) more

-- the text of n: n divisions are always enough, since each makes the number smaller
unfoldable pub digits_of : ℕ → List ℕ
digits_of n = spell n n

-- the most digits of a number of 64 bits
abbrev pub most_digits : ℕ
most_digits = 20

-- ---- what a number's text looks like

-- a byte from `0` to `9`
abbrev pub Digit : ℕ → Type 0
Digit b = (48 ≤ b) × (b ≤ 57)

-- 'decimal, without leading zero or plus': one digit or more and nothing else, and `0` first only where it is alone
pub record Decimal (t : List ℕ) : Type 0 where
  pub bytes : 1 ≤ length t
  pub digits : (j : ℕ) → j < length t → Digit (get_or t j 0)
  pub front : 1 < length t → get_or t 0 0 ≢ 48

-- ---- the number of a text

-- the digit that a byte is: bytes 48 to 57 are digits, and no other byte is
unfoldable pub digit_in : ℕ → Option ℕ
digit_in b = cond (ltb b 48) none (cond (ltb b 58) (some (b - 48)) none)

-- the number read so far and one digit more. Nothing follows a 0: that is 'without leading zero'
abbrev pub and_digit : Option ℕ → Option ℕ → Option ℕ
and_digit none d = none
and_digit (some zero) d = none
and_digit (some (suc u)) none = none
and_digit (some (suc u)) (some d) = some (suc u * 10 + d)

-- the number read so far and the bytes t after it
unfoldable pub onward : Option ℕ → List ℕ → Option ℕ
onward o [] = o
onward o (b ∷ t) = onward (and_digit o (digit_in b)) t

-- the number that a text is: one digit or more, and nothing else
unfoldable pub number_in : List ℕ → Option ℕ
number_in [] = none
number_in (b ∷ t) = onward (digit_in b) t

-- a number up to `most`, and none above
unfoldable pub up_to : ℕ → Option ℕ → Option ℕ
up_to most none = none
up_to most (some n) = cond (leb n most) (some n) none

-- the number that a text is, where the device can hold it
abbrev pub number_up_to : ℕ → List ℕ → Option ℕ
number_up_to most t = up_to most (number_in t)
