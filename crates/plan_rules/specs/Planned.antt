-- A plan, the limits of a device, and what fits (the paper, 'Plans'). The limits of the device are parameters; `device` has those of the paper.
-- Assumes nothing.
use Rattle.std.specs.Prelude.{ℕ, ◌≤◌, ◌<◌, List, [], ◌∷◌, length}
use Rattle.listing.specs.Count.{count}
use Rattle.listing.specs.Limits.{most_ports, most_legs, largest64}
use Rattle.promise.specs.Plan.{Leg}
use Rattle.words.specs.Signs.{Proper}
use Rattle.words.specs.declared.Signed.{Signed}

-- a plan: its ports and its legs
pub record Planned : Type 0 where
  pub ports : ℕ
  pub legs : List Leg

-- a run by its sign: behind for a leg that runs backward
abbrev pub run_of : Leg → Signed
run_of l = record { back = l.back; magnitude = l.run }

-- a leg by its start and its run
abbrev pub leg_by : ℕ → Signed → Leg
leg_by start s = record { start = start; back = s.back; run = s.magnitude }

-- ---- the device

-- the limits of a device: the most ports, the most legs of a plan, the largest number that it holds
pub record Limits : Type 0 where
  pub ports : ℕ
  pub legs : ℕ
  pub largest : ℕ

-- the device with 20 ports and plans of 16 legs
abbrev pub device : Limits
device = record { ports = most_ports; legs = most_legs; largest = largest64 }

-- ---- what fits

-- a leg among `size` ranks: its start is below, '|run| is at most count-1', and a run is behind only if it is not 0
pub record LegFits (size : ℕ) (l : Leg) : Type 0 where
  pub start : l.start < size
  pub run : l.run < size
  pub behind : Proper (run_of l)

abbrev pub EachFits : ℕ → List Leg → Type 0
EachFits size [] = Unit {0}
EachFits size (l ∷ ls) = LegFits size l × EachFits size ls

-- a plan that fits a device: 2 ports to the most, 1 leg to the most, and each leg among the ranks of its ports
pub record Fits (most : Limits) (p : Planned) : Type 0 where
  pub few_ports : 2 ≤ p.ports
  pub many_ports : p.ports ≤ most.ports
  pub few_legs : 1 ≤ length p.legs
  pub many_legs : length p.legs ≤ most.legs
  pub each : EachFits (count p.ports) p.legs
