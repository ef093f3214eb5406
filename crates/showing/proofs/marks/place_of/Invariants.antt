-- `showing::marks::place_of`: the marks of the legs before `leg` and `step` are the mark's number; each turn leaves a leg behind.
-- Assumes nothing.
use mathlib.Core.Path.{◌≡◌}
use Prim.Native.Nat.{◌+◌, ◌-◌, ◌<◌}
use lib.ListN.{length, take}
use Rattle.promise.specs.Plan.{marks}
use Rattle.plan_rules.specs.Rules.{legs_of}
use Rattle.showing.proofs.marks.place_of.Given as goal

abbrev pub invariant-loop-step : goal.invariant-loop-step
invariant-loop-step l = (l.leg < length (legs_of l.ruled.plan)) × (marks (take l.leg (legs_of l.ruled.plan)) + l.step ≡ l.k)

abbrev pub decreases-loop-step : goal.decreases-loop-step
decreases-loop-step l = length (legs_of l.ruled.plan) - l.leg
