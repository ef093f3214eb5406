-- Whether an order is in shape, and a line fits, as tests (the paper, 'Refusal numbers': 17). `InShape` of the list says what shape is; proofs/Shape has that the two agree.
-- Assumes nothing.
use Rattle.std.specs.Prelude.{ℕ, Bool, true, not, ◌&&◌, eqb, leb, ltb}
use Rattle.words.specs.Meaning.{order_of}
use Rattle.words.specs.declared.Line.{Line}
use Rattle.words.specs.declared.Line.TheVariants.{Movement, Seat, Mark, End}
use Rattle.listing.specs.Numbers.{Among}
use Rattle.listing.specs.Orders.{Order, swap, turn, InShape}

-- whether x is one of a..b
abbrev pub within : ℕ → ℕ → ℕ → Bool
within a b x = leb a x && leb x b

-- whether x is one of 1..n
unfoldable pub one_of : ℕ → ℕ → Bool
one_of n x = within 1 n x

-- whether a comes before b among 1..n
unfoldable pub rising : ℕ → ℕ → ℕ → Bool
rising n a b = leb 1 a && ltb a b && leb b n

-- whether an order is in shape: of a swap the smaller jack comes first, of a turn the smallest, and its other two are different
unfoldable pub shaped : ℕ → Order → Bool
shaped n (swap a b) = rising n a b
shaped n (turn a b c) = not (eqb b c) && rising n a b && rising n a c

-- whether a line fits n jacks: an order in shape, a seat at one of them (request 4: 17 for 'a seat jack outside' them), each mark and each end
abbrev pub line_fits : ℕ → Line → Bool
line_fits n (Movement o) = shaped n (order_of o)
line_fits n (Seat j) = one_of n j.0
line_fits n (Mark m r) = true
line_fits n (End m) = true

-- the same as a statement
abbrev pub LineFits : ℕ → Line → Type 0
LineFits n (Movement o) = InShape n (order_of o)
LineFits n (Seat j) = Among n j.0
LineFits n (Mark m r) = Unit {0}
LineFits n (End m) = Unit {0}
