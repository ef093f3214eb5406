-- The calls that begin with the check: they pass its refusal on whole, and an accepted pattern has its rank and its neighbours in the list.
-- Assumes nothing.
use mathlib.Core.Path.{◌≡◌}
use mathlib.Core.Bool.{Bool}
use mathlib.Core.List.{List}
use Prim.Native.Nat.{ℕ, ◌<◌}
use lib.ListN.{length}
use Rattle.listing.specs.Count.{count}
use Rattle.listing.specs.Listing.{at}
use Rattle.listing.specs.Rank.{rank}
use Rattle.listing.specs.Orders.{moved, Leads}
use Rattle.listing.specs.Neighbours.{rank_beside, move_beside}
use Rattle.listing.proofs.Numbers.{from-two}
use Rattle.listing.proofs.Ranks.{rank_below, at-rank}
use Rattle.listing.proofs.Neighbours.{beside-leads}
use Rattle.words.specs.Told.{Spot, accepted, refused}
use Rattle.pattern_check.specs.Calls.{check_of}
use Rattle.patterns.specs.Calls.{rank_of, listed_of, unrank_of, unrank_bytes, beside_of, beside_bytes}
use Rattle.pattern_check.proofs.Accepted.{Pattern, accepted-pattern}

-- ---- the rank

pub rank-refused : (most : ℕ) (p : List ℕ) (k : ℕ) (s : Spot) → refused k s ≡ check_of most p → refused k s ≡ rank_of most p
unfolding rank_of
rank-refused most p k s e = rw (← e)

pub rank-accepted : (most : ℕ) (p : List ℕ) → accepted tt ≡ check_of most p → accepted (rank (length p) p) ≡ rank_of most p
unfolding rank_of
rank-accepted most p e = rw (← e)

-- ---- the pattern of a rank

-- what a refused call tells and leaves
pub unrank-refused : (most r : ℕ) (out : List ℕ) (k : ℕ) (s : Spot) → refused k s ≡ listed_of most (length out) r
    → (refused k s ≡ unrank_of most r out) × (out ≡ unrank_bytes most r out)
unfolding unrank_bytes
unrank-refused most r out k s e = (e, rw (← e))

-- and an accepted one
pub unrank-accepted : (most r : ℕ) (out : List ℕ) → accepted tt ≡ listed_of most (length out) r
    → (accepted tt ≡ unrank_of most r out) × (at (length out) r ≡ unrank_bytes most r out)
unfolding unrank_bytes
unrank-accepted most r out e = (e, rw (← e))

-- ---- the pattern beside a pattern

-- what a refused call tells and leaves
pub beside-refused : (most : ℕ) (back : Bool) (p : List ℕ) (k : ℕ) (s : Spot) → refused k s ≡ check_of most p
    → (refused k s ≡ beside_of most back p) × (p ≡ beside_bytes most back p)
unfolding beside_bytes beside_of
beside-refused most back p k s e = (rw (← e), rw (← e))

-- of a pattern: the move in the paper's form, from it to the one beside it in the list
module _ (most : ℕ) (p : List ℕ) (e : accepted tt ≡ check_of most p) where
  whole : Pattern most p
  whole = accepted-pattern most p e

  pub rank-fits : rank (length p) p < count (length p)
  rank-fits = rank_below (length p) p whole.is

  pub goes : (back : Bool) → Leads (length p) (move_beside (length p) back (rank (length p) p)) p (at (length p) (rank_beside (length p) back (rank (length p) p)))
  goes back =
      rw (at-rank (length p) p whole.is) at
      (from-two (λ n. (b : Bool) (r : ℕ) → r < count n → Leads n (move_beside n b r) (at n r) (at n (rank_beside n b r))) beside-leads
      (length p) whole.low back (rank (length p) p) rank-fits)

  -- what an accepted call tells and leaves
  pub beside-accepted : (back : Bool) → (accepted (move_beside (length p) back (rank (length p) p)) ≡ beside_of most back p)
      × (moved (move_beside (length p) back (rank (length p) p)) p ≡ beside_bytes most back p)
  unfolding beside_bytes beside_of
  beside-accepted back = (rw (← e), rw (← e) (goes back).makes)
