-- The dictionary for n ports: exactly the patterns, each once, in dictionary order, as many as the count; and it is the only such list.
-- The number of a pattern is its place there, and `numbered` makes what stands there.
-- Assumes nothing.
use mathlib.Core.Path.{◌≡◌, sym, ap, ◌∙◌}
use mathlib.Core.List.{List}
use Prim.Native.Nat.{ℕ, ◌<◌}
use lib.ListN.{length}
use Rattle.listing.specs.Pattern.{Derangement}
use Rattle.listing.specs.Count.{count}
use Rattle.listing_dictionary.specs.Order.{Sorted}
use Rattle.listing_dictionary.specs.Free.{ports, later}
use Rattle.listing_dictionary.specs.Completions.{completions}
use Rattle.listing_dictionary.specs.Dictionary.{fillings, dictionary, in_dictionary}
use Rattle.listing_dictionary.specs.Number.{number, numbered}
use Rattle.listing_dictionary.proofs.Order.{sorted-once, sorted-for}
use Rattle.listing_dictionary.proofs.Completions.{completions-count}
use Rattle.listing_dictionary.proofs.Fillings.{Fills, length-fillings, fillings-sorted, number-below, at-number, numbered-fits, numbered-at}
use Rattle.listing_dictionary.proofs.Patterns.{left-ports, later-ports, derangement-fills, fills-derangement}

-- ---- the list

-- exactly the patterns, each once, in dictionary order
pub dictionary-sorted : (n : ℕ) → Sorted (Derangement n) (dictionary n)
unfolding dictionary
dictionary-sorted n =
    sorted-for (Fills n 0 (ports 0 n)) (Derangement n) (fillings n 0 (ports 0 n)) (fills-derangement n) (derangement-fills n)
    (fillings-sorted n 0 (ports 0 n) (left-ports n))

-- there is no other such list
pub dictionary-only : (n : ℕ) (l : List (List ℕ)) → Sorted (Derangement n) l → l ≡ dictionary n
dictionary-only n l S = sorted-once (Derangement n) l (dictionary n) S (dictionary-sorted n)

-- all completions are the count
pub all-completions : (n : ℕ) → completions n (later 0 (ports 0 n)) ≡ count n
all-completions n = ap (completions n) (later-ports n) ∙ completions-count n

pub length-dictionary : (n : ℕ) → length (dictionary n) ≡ count n
unfolding dictionary
length-dictionary n = length-fillings n 0 (ports 0 n) (left-ports n) ∙ all-completions n

-- what stands there is a pattern
pub dictionary-derangement : (n k : ℕ) → k < count n → Derangement n (in_dictionary n k)
unfolding in_dictionary
dictionary-derangement n k h = (dictionary-sorted n).only k (rw (length-dictionary n) h)

-- ---- numbers and patterns

-- numbers are below the count
pub number-count : (n : ℕ) (p : List ℕ) → Derangement n p → number n p < count n
unfolding number
number-count n p D = rw (← all-completions n) (number-below n 0 (ports 0 n) p (left-ports n) (derangement-fills n p D))

-- a pattern stands in the dictionary at its number
pub dictionary-number : (n : ℕ) (p : List ℕ) → Derangement n p → in_dictionary n (number n p) ≡ p
unfolding number in_dictionary dictionary
dictionary-number n p D = at-number n 0 (ports 0 n) p (left-ports n) (derangement-fills n p D)

-- the pattern that is made of a number stands there
pub numbered-dictionary : (n k : ℕ) → k < count n → numbered n k ≡ in_dictionary n k
unfolding numbered in_dictionary dictionary
numbered-dictionary n k h = numbered-at n 0 k (ports 0 n) (left-ports n) (rw all-completions h)

-- the number of what stands at k is k
pub number-dictionary : (n k : ℕ) → k < count n → number n (in_dictionary n k) ≡ k
unfolding number numbered
number-dictionary n k h =
    ap (number n) (sym (numbered-dictionary n k h)) ∙ (numbered-fits n 0 k (ports 0 n) (left-ports n) (rw all-completions h)).1
