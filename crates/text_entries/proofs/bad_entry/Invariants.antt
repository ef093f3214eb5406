-- `text_entries::bad_entry`: the entries before `at` are numbers, and were counted, so the first bad one is found from there on. Each turn passes a comma.
-- Assumes nothing.
use Prim.Native.Nat.{◌-◌, ◌≤◌}
use lib.ListN.{length}
use Rattle.listing.specs.Limits.{largest64}
use Rattle.text_entries.proofs.Bad.{Passed}
use Rattle.text_entries.proofs.bad_entry.Given as goal

abbrev pub invariant-loop-next : goal.invariant-loop-next
invariant-loop-next l = (l.at ≤ length l.t) × Passed largest64 l.t l.passed l.at

abbrev pub decreases-loop-next : goal.decreases-loop-next
decreases-loop-next l = length l.t - l.at
