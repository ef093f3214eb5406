-- The rows of the completions: for so many jacks, by how many of them have their own port free.
-- Assumes nothing.
use Rattle.std.specs.Prelude.{ℕ, ◌≤◌, ◌<◌, ◌≡◌, List, length, get_or}
use Rattle.listing.specs.Numbers.{before}
use Rattle.listing.specs.Limits.{most_ports}
use Rattle.listing_dictionary.specs.Completions.{completions}

-- an array begins with the completions of m jacks, from those where no jack has its own port free to those where all have
pub record Row (m : ℕ) (row : List ℕ) : Type 0 where
  pub long : length row ≡ most_ports
  pub ways : (k : ℕ) → k ≤ m → get_or row k 0 ≡ completions m k

-- on the way between the row of m jacks and the row of one less: the places before k have this one, and those from k on that one
pub record Between (m k : ℕ) (row : List ℕ) : Type 0 where
  pub long : length row ≡ most_ports
  pub fewer : (i : ℕ) → i < k → get_or row i 0 ≡ completions (before m) i
  pub more : (i : ℕ) → k ≤ i → i ≤ m → get_or row i 0 ≡ completions m i
