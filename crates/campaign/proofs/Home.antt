-- The ports of the plan that a text leaves.
-- Assumes nothing.
use mathlib.Core.Path.{◌≡◌, refl}
use mathlib.Core.List.{List}
use Prim.Native.Nat.{ℕ, ◌≤◌}
use native.Mathlib.Omega.{arith}
use Rattle.listing.specs.Limits.{most_ports, most_legs}
use Rattle.words.specs.Told.{Told, accepted, refused}
use Rattle.plan_rules.specs.Places.{placed, held_of}
use Rattle.plans.specs.Calls.{read_plan_of}
use Rattle.plans.proofs.Plans.{accepted-fits}
use Rattle.plan_rules.specs.Planned.{Planned, device}

-- it has no more ports than the device: an accepted plan fits, and a refused text leaves zeros
pub held-ports : (t : List ℕ) → (held_of most_legs (read_plan_of t)).ports ≤ most_ports
unfolding placed
held-ports t = by (read_plan_of t) refl
  where
    by : (x : Told Planned) → read_plan_of t ≡ x → (held_of most_legs x).ports ≤ most_ports
    by (accepted p) e = (accepted-fits device 1 t p e).0.many_ports
    by (refused k s) e = omega arith
