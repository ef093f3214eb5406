-- Where the walk stands: what its arrays hold when the first i jacks have their ports and m are left.
-- Assumes nothing.
use Rattle.std.specs.Prelude.{ℕ, ◌+◌, ◌≤◌, ◌≡◌, Bool, List, length}
use Rattle.listing.specs.Numbers.{before}
use Rattle.listing.specs.Limits.{most_ports}
use Rattle.listing_dictionary.proofs.Free.{Left}
use Rattle.dictionary_walk.specs.Rows.{Row}
use Rattle.dictionary_walk.specs.Free.{frees}

-- as many ports are free as jacks are left, and the row is that of the jacks after the next
pub record Stands (n i m : ℕ) (taken : List Bool) (row : List ℕ) : Type 0 where
  pub reach : i + m ≡ n
  pub most : n ≤ most_ports
  pub long : length taken ≡ most_ports
  pub left : Left i m (frees taken 0 n)
  pub ways : Row (before m) row
