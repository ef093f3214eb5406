-- `pattern_inverse::invert` meets its contract: each turn copies one port and stores its jack, or finds why p is no pattern. The loop's invariant: the first
-- `at` jacks hold ports, none of them its own; the copy has these ports, and the inverse their jacks and no other.
-- Assumes nothing.
use mathlib.Core.Path.{◌≡◌}
use lib.ListN.{length}
use Rattle.listing.specs.Limits.{most_ports}
use Rattle.pattern_inverse.proofs.Filled.{Filled}
use Rattle.pattern_inverse.proofs.invert.Given as goal

abbrev pub invariant-loop-at : goal.invariant-loop-at
invariant-loop-at l = (length l.copy ≡ most_ports) × (length l.inverse ≡ most_ports) × Filled l.p l.copy l.inverse l.at
