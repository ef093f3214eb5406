-- A refusal as a sentence, for people (include/jidrofex.h, 'A refusal as a sentence'), and what the call that writes it tells and leaves.
-- Assumes nothing.
use Rattle.std.specs.Prelude.{ℕ, cond, List, [], ◌++◌, eqb}
use Rattle.words.specs.Told.{Told}
use Rattle.words.specs.Shape.{within}
use Rattle.text_numbers.specs.Decimal.{digits_of}
use Rattle.line_format.specs.Calls.{room_of, room_bytes}
use Rattle.line_refusal.specs.Words.{quoted, words_of}

-- what a place is: a jack for 3, 4 and 5, a line for any other refusal
abbrev pub place_name : ℕ → List ℕ
place_name number = cond (within 3 5 number) (quoted "jack ") (quoted "line ")

-- a place before the words: `jack 5: `
abbrev pub placed : List ℕ → ℕ → List ℕ
placed name place = (name ++ digits_of place) ++ quoted ": "

-- where the fault is: nothing where no place is said, and for a number that no refusal has
unfoldable pub where_text : ℕ → ℕ → List ℕ
where_text number place = cond (eqb place 0) [] (cond (within 1 17 number) (placed (place_name number) place) [])

-- where the other one is, after the words of 4
unfoldable pub other_text : ℕ → ℕ → List ℕ
other_text number earlier = cond (eqb earlier 0) [] (cond (eqb number 4) (quoted ", at jack " ++ digits_of earlier) [])

-- the sentence of a refusal: where, the words of its number, and where the other one is
unfoldable pub sentence_of : ℕ → ℕ → ℕ → List ℕ
sentence_of number place earlier = (where_text number place ++ words_of number) ++ other_text number earlier

-- JIDROFEX_SENTENCE_BYTES: how long the longest is
abbrev pub most_sentence : ℕ
most_sentence = 86

-- ---- the call

-- how many bytes it takes, or 2 where it does not fit the buffer
unfoldable pub refusal_sentence_of : ℕ → ℕ → ℕ → List ℕ → Told ℕ
refusal_sentence_of number place earlier buf = room_of (sentence_of number place earlier) buf

-- the bytes left: the sentence at the front, and later bytes keep their values; on a refusal all do
unfoldable pub refusal_sentence_bytes : ℕ → ℕ → ℕ → List ℕ → List ℕ
refusal_sentence_bytes number place earlier buf = room_bytes (sentence_of number place earlier) buf
