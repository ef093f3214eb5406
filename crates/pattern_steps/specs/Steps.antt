-- What a step in place asks of the ports that it has yet to take.
-- Assumes nothing.
use Rattle.std.specs.Prelude.{ℕ, ◌≤◌, List}
use Rattle.listing.specs.Pattern.{entry}
use Rattle.listing.specs.Limits.{most_ports}

-- of the pattern of m ports the jacks up to j are left: their ports can be raised
abbrev pub LeftFit : ℕ → ℕ → List ℕ → Type 0
LeftFit m j t = (x : ℕ) → x ≤ j → x ≤ m → entry t x ≤ most_ports
