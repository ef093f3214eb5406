-- The words of a refusal, by its number (include/jidrofex.h, 'The refusals, by number'), and what the call that writes them tells and leaves.
-- Assumes nothing.
use Rattle.std.specs.Prelude.{ℕ, List, [], ◌∷◌, get_or}
use Prim.Native.Char.{code}
use Prim.Native.String.{String, [] as empty, ◌∷◌ as ◌and◌}
use Rattle.words.specs.Told.{Told}
use Rattle.line_format.specs.Calls.{room_of, room_bytes}

-- a quoted text as a list of bytes: a byte for each character, which is the character's code
unfoldable pub quoted : String → List ℕ
quoted empty = []
quoted (c and s) = code c ∷ quoted s

-- those of 0, and of the refusals from 1 to 17
abbrev pub all_words : List String
all_words =
    "accepted"
    ∷ "ports or length not 2 to 20"
    ∷ "does not fit the buffer"
    ∷ "entry outside the panel's ports"
    ∷ "entry equal to an earlier one"
    ∷ "entry equal to its own jack"
    ∷ "rank not below the count"
    ∷ "not the key that belongs here"
    ∷ "number badly written or too large"
    ∷ "legs not 1 to 16"
    ∷ "run too long"
    ∷ "text ended early or went on"
    ∷ "report of a mark that does not stand"
    ∷ "request while a mark stands"
    ∷ "report kind above 2"
    ∷ "state unfit"
    ∷ "error reported when 65,535 are counted"
    ∷ "jack or port off the panel, or order out of shape"
    ∷ []

-- those of any other number
abbrev pub no_words : String
no_words = "no refusal has this number"

-- the words of a number
unfoldable pub words_of : ℕ → List ℕ
words_of number = quoted (get_or all_words number no_words)

-- JIDROFEX_WORDS_BYTES: how long the longest are
abbrev pub most_words : ℕ
most_words = 49

-- ---- the call

-- how many bytes they take, or 2 where they do not fit the buffer
unfoldable pub refusal_words_of : ℕ → List ℕ → Told ℕ
refusal_words_of number buf = room_of (words_of number) buf

-- the bytes left: the words at the front, and later bytes keep their values; on a refusal all do
unfoldable pub refusal_words_bytes : ℕ → List ℕ → List ℕ
refusal_words_bytes number buf = room_bytes (words_of number) buf
