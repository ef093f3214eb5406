-- The signed step round the circuit (the paper, 'The list': a signed step answers (rank + k) modulo the count).
-- Assumes nothing.
use Rattle.std.specs.Prelude.{ℕ, ◌%◌, ℤ, pos, negsuc, ◌+ℤ◌}
use Rattle.listing.specs.Rank.{from_end}

-- z modulo c, between 0 and c - 1 also for negative z: -1 is c - 1
unfoldable pub modulo : ℤ → ℕ → ℕ
modulo (pos k) c = k % c
modulo (negsuc k) c = from_end c (k % c)

-- the place k further on a circuit of c, from place r
unfoldable pub around : ℕ → ℕ → ℤ → ℕ
around c r k = modulo (pos r +ℤ k) c
