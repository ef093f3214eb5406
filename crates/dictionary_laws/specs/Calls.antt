-- What each public call on dictionary numbers tells, and which bytes it leaves (request 3): over the dictionary, for accepted and refused calls alike.
-- The most ports of the device is a parameter.
-- Assumes nothing.
use Rattle.std.specs.Prelude.{ℕ, Bool, true, false, List, length}
use Rattle.listing.specs.Listing.{at}
use Rattle.listing.specs.Rank.{rank}
use Rattle.listing.specs.Neighbours.{next_rank}
use Rattle.listing_dictionary.specs.Dictionary.{in_dictionary}
use Rattle.listing_dictionary.specs.Number.{number}
use Rattle.words.specs.Told.{Told, accepted, then, leaves}
use Rattle.pattern_check.specs.Calls.{check_of}
use Rattle.patterns.specs.Calls.{listed_of}

-- 'pattern to dictionary number (from 0)': the refusals of the check
unfoldable pub dictionary_number_of : ℕ → List ℕ → Told ℕ
dictionary_number_of most p = then (check_of most p) (λ ok. accepted (number (length p) p))

-- 'number to pattern', for as many ports as the slice has bytes: refused as a rank is
abbrev pub dictionary_pattern_of : ℕ → ℕ → List ℕ → Told (Unit {0})
dictionary_pattern_of most k out = listed_of most (length out) k

unfoldable pub dictionary_pattern_bytes : ℕ → ℕ → List ℕ → List ℕ
dictionary_pattern_bytes most k out = leaves (dictionary_pattern_of most k out) (in_dictionary (length out) k) out

-- 'next in that order, last to first': the refusals of the check
abbrev pub dictionary_next_of : ℕ → List ℕ → Told (Unit {0})
dictionary_next_of most p = check_of most p

unfoldable pub dictionary_next_bytes : ℕ → List ℕ → List ℕ
dictionary_next_bytes most p = leaves (dictionary_next_of most p) (in_dictionary (length p) (next_rank (length p) (number (length p) p))) p

-- 'translation of a number to our rank and back'
unfoldable pub number_to_rank_of : ℕ → ℕ → ℕ → Told ℕ
number_to_rank_of most n k = then (listed_of most n k) (λ ok. accepted (rank n (in_dictionary n k)))

unfoldable pub rank_to_number_of : ℕ → ℕ → ℕ → Told ℕ
rank_to_number_of most n r = then (listed_of most n r) (λ ok. accepted (number n (at n r)))

-- the one or the other: of a rank its number, of a number its rank
abbrev pub translated_of : ℕ → Bool → ℕ → ℕ → Told ℕ
translated_of most true n k = rank_to_number_of most n k
translated_of most false n k = number_to_rank_of most n k
