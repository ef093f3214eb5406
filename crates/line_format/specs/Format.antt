-- Order lines as text (the paper, 'Order lines'; request 4, 'gives the order `seat=j`'): the kinds of lines, their keys and numbers, and the text of a line.
-- The reader and the writer are both held to it. A text is the list of its bytes.
-- Assumes nothing.
use Rattle.std.specs.Prelude.{ℕ, zero, suc, ◌≤◌, List, [], ◌∷◌, ◌++◌}
use Rattle.words.specs.Meaning.{jack_at}
use Rattle.words.specs.declared.Order.TheVariants.{Swap, Turn}
use Rattle.words.specs.declared.Line.{Line}
use Rattle.words.specs.declared.Line.TheVariants.{Movement, Seat, Mark, End}
use Rattle.text_numbers.specs.Decimal.{digits_of}
use Rattle.text_keys.specs.Parts.{newline, comma}

-- ---- the kinds

-- `swap=a,b`, `turn=a,b,c`, `seat=j`, `mark=number,rank`, `end=marks`
pub data Kind : Type 0 where
  swapping : Kind
  turning : Kind
  seating : Kind
  marking : Kind
  ending : Kind

-- the key with its `=`: `swap=`, `turn=`, `seat=`, `mark=`, `end=`
abbrev pub key : Kind → List ℕ
key swapping = 115 ∷ 119 ∷ 97 ∷ 112 ∷ 61 ∷ []
key turning = 116 ∷ 117 ∷ 114 ∷ 110 ∷ 61 ∷ []
key seating = 115 ∷ 101 ∷ 97 ∷ 116 ∷ 61 ∷ []
key marking = 109 ∷ 97 ∷ 114 ∷ 107 ∷ 61 ∷ []
key ending = 101 ∷ 110 ∷ 100 ∷ 61 ∷ []

-- how many commas stand between the numbers
abbrev pub commas : Kind → ℕ
commas swapping = 1
commas turning = 2
commas seating = 0
commas marking = 1
commas ending = 0

-- ---- numbers

-- the numbers between which k commas stand: one more than k
abbrev pub Numbers : ℕ → Type 0
Numbers zero = ℕ
Numbers (suc k) = ℕ × Numbers k

-- each at most `most`
abbrev pub AllUpTo : ℕ → (k : ℕ) → Numbers k → Type 0
AllUpTo most zero n = n ≤ most
AllUpTo most (suc k) x = (x.0 ≤ most) × AllUpTo most k x.1

-- numbers written as in plans, with the commas
unfoldable pub listed : (k : ℕ) → Numbers k → List ℕ
listed zero n = digits_of n
listed (suc k) x = digits_of x.0 ++ (comma ∷ listed k x.1)

-- ---- lines

-- the kind of a line
abbrev pub kind_of : Line → Kind
kind_of (Movement (Swap a b)) = swapping
kind_of (Movement (Turn a b c)) = turning
kind_of (Seat j) = seating
kind_of (Mark m r) = marking
kind_of (End m) = ending

-- the numbers of a line
abbrev pub numbers_of : (l : Line) → Numbers (commas (kind_of l))
numbers_of (Movement (Swap a b)) = (a.0, b.0)
numbers_of (Movement (Turn a b c)) = (a.0, (b.0, c.0))
numbers_of (Seat j) = j.0
numbers_of (Mark m r) = (m, r)
numbers_of (End m) = m

-- the line of a kind that has these numbers
abbrev pub line_of : (k : Kind) → Numbers (commas k) → Line
line_of swapping x = Movement (Swap (jack_at x.0) (jack_at x.1))
line_of turning x = Movement (Turn (jack_at x.0) (jack_at x.1.0) (jack_at x.1.1))
line_of seating n = Seat (jack_at n)
line_of marking x = Mark x.0 x.1
line_of ending n = End n

-- the text of numbers after the key of a kind
unfoldable pub key_text : (k : Kind) → Numbers (commas k) → List ℕ
key_text k x = key k ++ listed (commas k) x

-- the text of a line without its newline
unfoldable pub unended : Line → List ℕ
unended l = key_text (kind_of l) (numbers_of l)

-- the text of a line: 'each with one newline'
unfoldable pub line_text : Line → List ℕ
line_text l = unended l ++ (newline ∷ [])
