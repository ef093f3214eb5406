-- What the calls tell and leave, by their definitions: a refusal is passed on whole, and leaves the slice; what is accepted is what it says.
-- Assumes nothing.
use mathlib.Core.Path.{◌≡◌, sym, ap, ◌∙◌}
use mathlib.Core.Bool.{Bool, true, false}
use mathlib.Core.List.{List}
use Prim.Native.Nat.{ℕ, ◌<◌}
use lib.ListN.{length, take, replicate}
use lib.Seq.{length-take-le}
use Rattle.listing.specs.Pattern.{Derangement}
use Rattle.listing.specs.Count.{count}
use Rattle.listing.specs.Listing.{at}
use Rattle.listing.specs.Rank.{rank}
use Rattle.listing.specs.Neighbours.{next_rank}
use Rattle.listing.specs.Limits.{most_ports}
use Rattle.listing.proofs.Ranks.{at-derangement}
use Rattle.listing_dictionary.specs.Dictionary.{in_dictionary}
use Rattle.listing_dictionary.specs.Number.{number}
use Rattle.listing_dictionary.proofs.Dictionary.{dictionary-derangement, number-count}
use Rattle.words.specs.Told.{Spot, accepted, refused}
use Rattle.pattern_check.specs.Calls.{check_of}
use Rattle.pattern_check.proofs.Accepted.{Pattern, accepted-pattern, pattern-accepted}
use Rattle.patterns.specs.Calls.{rank_of, listed_of}
use Rattle.patterns.proofs.Calls.{listed-parts}
use Rattle.patterns.proofs.Accepted.{rank-accepted}
use Rattle.dictionary_laws.specs.Calls.{dictionary_number_of, dictionary_pattern_of, dictionary_pattern_bytes, dictionary_next_of, dictionary_next_bytes}
use Rattle.dictionary_laws.specs.Calls.{number_to_rank_of, rank_to_number_of, translated_of}

-- ---- a pattern

module _ (most : ℕ) (p : List ℕ) where
  module _ (k : ℕ) (s : Spot) (e : refused k s ≡ check_of most p) where
    pub number-refused : refused k s ≡ dictionary_number_of most p
    unfolding dictionary_number_of
    number-refused = rw (← e)

    pub next-refused : (refused k s ≡ dictionary_next_of most p) × (p ≡ dictionary_next_bytes most p)
    unfolding dictionary_next_bytes
    next-refused = (e, rw (← e))

  module _ (e : accepted tt ≡ check_of most p) where
    pub number-accepted : accepted (number (length p) p) ≡ dictionary_number_of most p
    unfolding dictionary_number_of
    number-accepted = rw (← e)

    pub next-accepted : (accepted tt ≡ dictionary_next_of most p)
        × (in_dictionary (length p) (next_rank (length p) (number (length p) p)) ≡ dictionary_next_bytes most p)
    unfolding dictionary_next_bytes
    next-accepted = (e, rw (← e))

    -- its number is below the count, and so is the next
    pub number_fits : number (length p) p < count (length p)
    number_fits = number-count (length p) p (accepted-pattern most p e).is

-- ---- a number or a rank

module _ (most n k : ℕ) where
  -- what is refused is passed on, either way
  pub translated-refused : (ranked : Bool) (j : ℕ) (s : Spot) → refused j s ≡ listed_of most n k → refused j s ≡ translated_of most ranked n k
  unfolding number_to_rank_of rank_to_number_of
  translated-refused true j s e = rw (← e)
  translated-refused false j s e = rw (← e)

  -- what is found by a rank, and by a number, is a pattern of so many ports
  module _ (e : accepted tt ≡ listed_of most n k) where
    of-ports : (p : List ℕ) → Derangement n p → Pattern most p
    of-ports p D =
        let h = listed-parts most n k e in
        let long : length p ≡ n = D.permutation.long in
        record { low = rw long h.0; high = rw long h.1; is = rw long D }

    pub rank-pattern : Pattern most (at n k)
    rank-pattern = of-ports (at n k) (at-derangement n k (listed-parts most n k e).2)

    -- so the one has a number
    pub back-told : (p : List ℕ) → p ≡ at n k → accepted (number (length p) p) ≡ rank_to_number_of most n k
    unfolding rank_to_number_of
    back-told p f =
        rw (f, ← e) (ap (λ (m : ℕ). accepted (number m (at n k))) (at-derangement n k (listed-parts most n k e).2).permutation.long)

    -- and the other a rank
    pub rank-told : (p : List ℕ) → p ≡ in_dictionary n k → rank_of most p ≡ number_to_rank_of most n k
    unfolding number_to_rank_of
    rank-told p f =
        let D = dictionary-derangement n k (listed-parts most n k e).2 in
        let q = in_dictionary n k in
        rw (f, ← e)
        (sym (rank-accepted most q (pattern-accepted most q (of-ports q D))) ∙ ap (λ (m : ℕ). accepted (rank m q)) D.permutation.long)

module _ (most k : ℕ) (out : List ℕ) where
  pub pattern-refused : (j : ℕ) (s : Spot) → refused j s ≡ listed_of most (length out) k
      → (refused j s ≡ dictionary_pattern_of most k out) × (out ≡ dictionary_pattern_bytes most k out)
  unfolding dictionary_pattern_bytes
  pattern-refused j s e = (e, rw (← e))

  pub pattern-told : accepted tt ≡ listed_of most (length out) k
      → (accepted tt ≡ dictionary_pattern_of most k out) × (in_dictionary (length out) k ≡ dictionary_pattern_bytes most k out)
  unfolding dictionary_pattern_bytes
  pattern-told e = (e, rw (← e))

-- room for the longest pattern has a place for each port
pub room_for : (n k : ℕ) → accepted tt ≡ listed_of most_ports n k → length {A = ℕ} (take n (replicate most_ports 0)) ≡ n
room_for n k e = length-take-le n (replicate most_ports 0) (listed-parts most_ports n k e).1

-- so what is listed for so many ports is listed for that room
pub room-listed : (n k : ℕ) → accepted tt ≡ listed_of most_ports n k → accepted tt ≡ listed_of most_ports (length {A = ℕ} (take n (replicate most_ports 0))) k
room-listed n k e = e ∙ ap (λ (m : ℕ). listed_of most_ports m k) (sym (room_for n k e))
