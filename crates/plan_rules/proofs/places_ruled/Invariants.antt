-- `plan_rules::places_ruled` asks of each place what the definition asks: those before `at` are right, so those from there on decide.
use mathlib.Core.Path.{◌≡◌}
use Prim.Native.Nat.{◌-◌}
use lib.ListN.{length, drop}
use Rattle.plan_rules.specs.Places.{legs_held}
use Rattle.plan_rules.specs.Rules.{places_ruled}
use Rattle.plan_rules.proofs.places_ruled.Given as goal

abbrev pub invariant-loop-at : goal.invariant-loop-at
invariant-loop-at l =
    places_ruled l.size l.legs (legs_held (length l.p.starts) l.p.starts l.p.runs) ≡ places_ruled l.size (l.legs - l.at) (drop l.at (legs_held (length l.p.starts) l.p.starts l.p.runs))
