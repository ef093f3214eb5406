-- Request 3, 'Dictionary numbers', as one record over the definitions that the public calls meet. The calls for C tell the same (`face_dictionary.Contracts`).
-- Assumes nothing.
use Rattle.std.specs.Prelude.{ℕ, suc, ◌<◌, ◌≡◌, List, length}
use Rattle.listing.specs.Pattern.{Derangement}
use Rattle.listing.specs.Count.{count}
use Rattle.listing.specs.Listing.{at}
use Rattle.listing.specs.Limits.{most_ports}
use Rattle.listing_dictionary.specs.Order.{Sorted}
use Rattle.listing_dictionary.specs.Dictionary.{dictionary, in_dictionary}
use Rattle.words.specs.Told.{accepted}
use Rattle.dictionary_laws.specs.Calls.{dictionary_number_of, dictionary_pattern_of, dictionary_pattern_bytes, dictionary_next_of, dictionary_next_bytes}
use Rattle.dictionary_laws.specs.Calls.{number_to_rank_of, rank_to_number_of}

-- number k and rank r are those of one pattern, and each is told of the other: 'Translating there and back must return the number'
pub record Translated (n k r : ℕ) : Type 0 where
  pub number : k < count n
  pub rank : r < count n
  pub one : at n r ≡ in_dictionary n k
  pub to_rank : number_to_rank_of most_ports n k ≡ accepted r
  pub to_number : rank_to_number_of most_ports n r ≡ accepted k

pub record DictionaryNumbers (n : ℕ) : Type 0 where
  -- 'numbers the same patterns in dictionary order, first jack first': the list is in that order and has exactly the patterns, and no other list is and has
  pub sorted : Sorted (Derangement n) (dictionary n)
  pub only : (l : List (List ℕ)) → Sorted (Derangement n) l → l ≡ dictionary n
  pub many : length (dictionary n) ≡ count n
  -- 'pattern to dictionary number (from 0)': its place in the list
  pub number : (k : ℕ) → k < count n → dictionary_number_of most_ports (in_dictionary n k) ≡ accepted k
  -- which each pattern has
  pub found : (p : List ℕ) → Derangement n p → (k : ℕ) × (k < count n) × (in_dictionary n k ≡ p) × (dictionary_number_of most_ports p ≡ accepted k)
  -- 'number to pattern': in every slice of n bytes
  pub pattern : (k : ℕ) (out : List ℕ) → k < count n → length out ≡ n
      → (dictionary_pattern_of most_ports k out ≡ accepted tt) × (dictionary_pattern_bytes most_ports k out ≡ in_dictionary n k)
  -- 'next in that order'
  pub next : (k : ℕ) → suc k < count n
      → (dictionary_next_of most_ports (in_dictionary n k) ≡ accepted tt) × (dictionary_next_bytes most_ports (in_dictionary n k) ≡ in_dictionary n (suc k))
  -- 'last to first'
  pub last : (k : ℕ) → suc k ≡ count n
      → (dictionary_next_of most_ports (in_dictionary n k) ≡ accepted tt) × (dictionary_next_bytes most_ports (in_dictionary n k) ≡ in_dictionary n 0)
  -- 'translation of a number to our rank and back'
  pub to_rank : (k : ℕ) → k < count n → (r : ℕ) × Translated n k r
  pub to_number : (r : ℕ) → r < count n → (k : ℕ) × Translated n k r
