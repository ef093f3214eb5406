-- The customer's second demand as one record over a number of ports, its fields after the customer's sentences, of the definitions that the calls on patterns
-- meet: 'The listing is the one Baril and Vajnovszki define for derangements', `listing` of document 000.
-- Assumes nothing.
use Rattle.std.specs.Prelude.{ℕ, ◌<◌, ◌≡◌, Bool, true, false, List, ℤ, length}
use Rattle.listing.specs.Pattern.{Derangement}
use Rattle.listing.specs.Limits.{most_ports}
use Rattle.listing.specs.Count as list
use Rattle.listing.specs.Listing.{listing, at}
use Rattle.listing.specs.Orders.{Move, Leads}
use Rattle.listing.specs.Neighbours.{next_rank, previous_rank}
use Rattle.listing.specs.Around.{around}
use Rattle.words.specs.Told.{accepted}
use Rattle.patterns.specs.Calls.{count_of, rank_of, unrank_of, unrank_bytes, beside_of, beside_bytes, step_of}

-- v is the move that is told from p to q: one move in the paper's form makes q of p, and it is v
pub record TheMove (n : ℕ) (v : Move) (p q : List ℕ) : Type 0 where
  pub leads : Leads n v p q
  pub only : (w : Move) → Leads n w p q → w ≡ v

pub record DemandTwo (n : ℕ) : Type 0 where
  -- ---- 'The listing .. for derangements': its patterns are the derangements of n ports, each at one rank
  pub derangement : (r : ℕ) → r < list.count n → Derangement n (at n r)
  pub listed : (p : List ℕ) → Derangement n p → (r : ℕ) × (r < list.count n) × (at n r ≡ p)
  pub once : (r q : ℕ) → r < list.count n → q < list.count n → at n r ≡ at n q → r ≡ q
  -- the call tells how many they are
  pub many : length (listing n) ≡ list.count n
  pub count : count_of most_ports n ≡ accepted (list.count n)
  -- ---- 'Pattern from rank': in every slice of n bytes
  pub unrank : (r : ℕ) (out : List ℕ) → r < list.count n → length out ≡ n → (unrank_of most_ports r out ≡ accepted tt) × (unrank_bytes most_ports r out ≡ at n r)
  -- ---- 'and rank from pattern both agree with it'
  pub rank : (r : ℕ) → r < list.count n → rank_of most_ports (at n r) ≡ accepted r
  -- ---- 'as do next and previous round the circuit': the bytes that they leave, last joined to first
  pub next : (r : ℕ) → r < list.count n → beside_bytes most_ports false (at n r) ≡ at n (next_rank n r)
  pub previous : (r : ℕ) → r < list.count n → beside_bytes most_ports true (at n r) ≡ at n (previous_rank n r)
  -- and the move that they tell
  pub move : (back : Bool) (r : ℕ) → r < list.count n
      → (v : Move) × (beside_of most_ports back (at n r) ≡ accepted v) × TheMove n v (at n r) (beside_bytes most_ports back (at n r))
  -- ---- a signed step agrees too
  pub step : (r : ℕ) (k : ℤ) → r < list.count n → step_of most_ports n r k ≡ accepted (around (list.count n) r k)
