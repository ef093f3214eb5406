-- `plans::reading::read_legs`: the legs read so far stand in the first places, and the text from `at` on decides.
use Prim.Native.Nat.{◌≤◌}
use lib.ListN.{length, drop}
use Rattle.listing.specs.Limits.{most_legs, largest64}
use Rattle.plans.proofs.Turns.{Read}
use Rattle.plans.proofs.reading.read_legs.Given as goal

abbrev pub invariant-loop-done : goal.invariant-loop-done
invariant-loop-done l =
    (l.at ≤ length l.text) × Read largest64 l.count most_legs l.legs 3 (drop l.from l.text) l.starts l.runs (drop l.at l.text) l.done
