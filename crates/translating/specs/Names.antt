-- The three names of a pattern (request 3, for partner labs): its rank in the list, its number in the dictionary, and its entries. A pattern is found by any of
-- them, and all three are printed on one line, such as `rank=8 number=0 pattern=2,1,4,3`.
-- Assumes nothing.
use Rattle.std.specs.Prelude.{ℕ, cond, List, [], ◌∷◌, ◌++◌, eqb, length}
use Rattle.listing.specs.Listing.{at}
use Rattle.listing.specs.Rank as list
use Rattle.listing.specs.Limits.{most_ports}
use Rattle.listing_dictionary.specs.Dictionary.{in_dictionary}
use Rattle.listing_dictionary.specs.Number as dictionary
use Rattle.words.specs.Told.{Told, accepted, refused, nowhere, then}
use Rattle.text_numbers.specs.Decimal.{digits_of}
use Rattle.text_keys.specs.Parts.{newline}
use Rattle.text_entries.specs.Entries.{entries_text}
use Rattle.pattern_check.specs.Calls.{check_of}
use Rattle.patterns.specs.Calls.{ranked}

-- ---- the names

pub record Named : Type 0 where
  pub rank : ℕ
  pub number : ℕ
  pub pattern : List ℕ

-- those of a pattern of n ports
abbrev pub names : ℕ → List ℕ → Named
names n p = record { rank = list.rank n p; number = dictionary.number n p; pattern = p }

-- the pattern of n ports with a rank, and with a dictionary number: 6 where there is none
unfoldable pub by_rank : ℕ → ℕ → Told Named
by_rank n r = ranked n r (accepted (names n (at n r)))

unfoldable pub by_number : ℕ → ℕ → Told Named
by_number n k = ranked n k (accepted (names n (in_dictionary n k)))

-- entries as a pattern of n ports: 8 where there are not n of them, then the check of a pattern, which tells 3, 4 or 5 at the jack
unfoldable pub by_pattern : ℕ → List ℕ → Told Named
by_pattern n p = cond (eqb (length p) n) (then (check_of most_ports p) (λ ok. accepted (names n p))) (refused 8 nowhere)

-- ---- as a line

-- the keys, each with its `=`: `rank=`, `number=`, `pattern=`
abbrev pub rank_key : List ℕ
rank_key = 114 ∷ 97 ∷ 110 ∷ 107 ∷ 61 ∷ []

abbrev pub number_key : List ℕ
number_key = 110 ∷ 117 ∷ 109 ∷ 98 ∷ 101 ∷ 114 ∷ 61 ∷ []

abbrev pub pattern_key : List ℕ
pattern_key = 112 ∷ 97 ∷ 116 ∷ 116 ∷ 101 ∷ 114 ∷ 110 ∷ 61 ∷ []

-- the space between two names on a line
abbrev pub space : ℕ
space = 32

-- the names of a pattern as one line: the rank, the number and the entries, each after its key, with a space between them
unfoldable pub names_text : Named → List ℕ
names_text x =
    (rank_key ++ digits_of x.rank)
    ++ (((space ∷ number_key) ++ digits_of x.number) ++ ((space ∷ pattern_key) ++ (entries_text x.pattern ++ (newline ∷ []))))

-- NAMES_BYTES: no line of names is longer
abbrev pub most_names : ℕ
most_names = 109
