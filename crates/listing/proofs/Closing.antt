-- From the last pattern to the first: one move closes the circuit.
-- Assumes nothing.
use mathlib.Core.Path.{◌≡◌, refl}
use mathlib.Core.Bool.{Bool, true, false}
use Prim.Native.Nat.{ℕ, zero, suc, ◌+◌, ◌≤◌}
use native.Mathlib.Omega.{arith}
use Rattle.listing.specs.Numbers.{odd}
use Rattle.listing.specs.Ends.{home, last}
use Rattle.listing.specs.Orders.{carry_all, one, Leads}
use Rattle.listing.specs.Joins.{closing}
use Rattle.listing.proofs.EndEntries.{length_last}
use Rattle.listing.proofs.Rows.{closing-two}
use Rattle.listing.proofs.Hops.{last-two, closes-odd, closes-even, closing-turn, closing-swap}

-- n = c + 2
module _ (c : ℕ) (pos : 1 ≤ c) where
  abbrev n : ℕ
  n = suc (suc c)

  closes : (b : Bool) → odd n ≡ b → Leads n (closing n) (last n) (home n)
  unfolding carry_all
  closes true b = rw (closing-turn c pos b) record { long = length_last n; form = omega arith; makes = closes-odd c pos b }
  closes false b = rw (closing-swap c pos b) record { long = length_last n; form = omega arith; makes = closes-even c pos b }

-- one move closes the circuit
pub closing-leads : (m : ℕ) → Leads (suc (suc m)) (closing (suc (suc m))) (last (suc (suc m))) (home (suc (suc m)))
closing-leads zero = rw (closing-two 2 refl) record { long = length_last 2; form = tt; makes = last-two }
closing-leads (suc m) = closes (suc m) (omega arith) (odd (suc (suc (suc m)))) refl
