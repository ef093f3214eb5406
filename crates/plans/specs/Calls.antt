-- What reading a plan tells on the device with 20 ports and plans of 16 legs: 'the place is the line number from 1'.
-- Assumes nothing.
use Rattle.std.specs.Prelude.{ℕ, List}
use Rattle.words.specs.Told.{Told}
use Rattle.plan_rules.specs.Planned.{Planned, device}
use Rattle.plans.specs.Reading.{plan_in}

abbrev pub read_plan_of : List ℕ → Told Planned
read_plan_of t = plan_in device 1 t
