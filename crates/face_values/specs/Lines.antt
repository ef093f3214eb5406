-- Lines and moves in words: 'A line is its kind and three numbers, 0 where it has fewer. A move is its kind and four jacks' (include/jidrofex.h).
-- Assumes nothing.
use Rattle.std.specs.Prelude.{ℕ, cond, List, [], ◌∷◌, eqb, leb, get_or}
use Rattle.listing.specs.Orders.{swap, turn, nothing, one, two}
use Rattle.listing.specs.Orders as list
use Rattle.words.specs.Meaning.{jack_at, order_of}
use Rattle.words.specs.declared.Jack.{Jack}
use Rattle.words.specs.declared.Order.TheVariants.{Swap, Turn}
use Rattle.words.specs.declared.Line.{Line}
use Rattle.words.specs.declared.Line.TheVariants.{Movement, Seat, Mark, End}

-- ---- the kinds: JIDROFEX_NOTHING, JIDROFEX_SWAP, JIDROFEX_TURN, JIDROFEX_MARK, JIDROFEX_END, JIDROFEX_TWO_SWAPS, and of request 4 JIDROFEX_SEAT

abbrev pub nothing_kind : ℕ
nothing_kind = 0

abbrev pub swap_kind : ℕ
swap_kind = 1

abbrev pub turn_kind : ℕ
turn_kind = 2

abbrev pub mark_kind : ℕ
mark_kind = 3

abbrev pub end_kind : ℕ
end_kind = 4

abbrev pub two_swaps_kind : ℕ
two_swaps_kind = 5

abbrev pub seat_kind : ℕ
seat_kind = 6

-- ---- their words

-- 'swap a, b; turn a, b, c'
abbrev pub order_words : list.Order → List ℕ
order_words (swap a b) = swap_kind ∷ a ∷ b ∷ 0 ∷ []
order_words (turn a b c) = turn_kind ∷ a ∷ b ∷ c ∷ []

-- 'seat jack; mark number, rank; end marks'
abbrev pub line_words : Line → List ℕ
line_words (Movement o) = order_words (order_of o)
line_words (Seat j) = seat_kind ∷ j.0 ∷ 0 ∷ 0 ∷ []
line_words (Mark number rank) = mark_kind ∷ number ∷ rank ∷ 0 ∷ []
line_words (End marks) = end_kind ∷ marks ∷ 0 ∷ 0 ∷ []

-- 'nothing, a swap, a turn, or two swaps a,b and c,d'; the zeros after them are the answer's
abbrev pub move_words : list.Move → List ℕ
move_words nothing = nothing_kind ∷ []
move_words (one o) = order_words o
move_words (two a b c d) = two_swaps_kind ∷ a ∷ b ∷ c ∷ d ∷ []

-- ---- the line that words mean

-- the largest number of 8 bits, which a jack is held in
abbrev pub largest8 : ℕ
largest8 = 255

-- the jack of a word: jack 0, which no panel has, for a number that no jack holds
abbrev pub jack_in : ℕ → Jack
jack_in w = jack_at (cond (leb w largest8) w 0)

-- a line by its kind and its numbers; 'a kind that is no line's' is the swap of jack 0 with itself, which is out of shape
unfoldable pub line_from : ℕ → ℕ → ℕ → ℕ → Line
line_from kind a b c =
    cond (eqb kind swap_kind) (Movement (Swap (jack_in a) (jack_in b)))
    (cond (eqb kind turn_kind) (Movement (Turn (jack_in a) (jack_in b) (jack_in c)))
    (cond (eqb kind mark_kind) (Mark a b)
    (cond (eqb kind end_kind) (End a)
    (cond (eqb kind seat_kind) (Seat (jack_in a))
    (Movement (Swap (jack_at 0) (jack_at 0)))))))

-- the line that four words mean
abbrev pub line_in : List ℕ → Line
line_in ws = line_from (get_or ws 0 0) (get_or ws 1 0) (get_or ws 2 0) (get_or ws 3 0)
