-- `plan_arcs::finding::Circuit::openings` fills a place for each leg; the others stay nowhere.
-- Assumes nothing.
use mathlib.Core.Path.{◌≡◌}
use Prim.Native.Nat.{◌≤◌}
use lib.ListN.{length, take}
use Rattle.listing.specs.Limits.{most_legs}
use Rattle.words.specs.Padded.{padded}
use Rattle.promise_arcs.specs.Finding.{openings}
use Rattle.plan_rules.specs.Rules.{legs_of}
use Rattle.plan_arcs.specs.Arcs.{arcs_of}
use Rattle.plan_arcs.proofs.finding.Circuit.openings.Given as goal

abbrev pub invariant-loop-done : goal.invariant-loop-done
invariant-loop-done l =
    (length (legs_of l.self.ruled.plan) ≡ l.self.ruled.plan.legs) × (length (legs_of l.self.ruled.plan) ≤ most_legs) × (l.done ≤ length (legs_of l.self.ruled.plan)) × (l.starts ≡ padded most_legs l.self.size (take l.done (openings l.self.size (arcs_of l.self.size l.self.ruled.plan))))
