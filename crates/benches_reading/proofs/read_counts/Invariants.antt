-- `benches_reading::read_counts`: so many lines were read, up to a place, and their numbers stand at the front of the slice as far as it has room. Each turn passes
-- a newline.
use mathlib.Core.Path.{◌≡◌}
use Prim.Native.Nat.{◌-◌, ◌≤◌}
use lib.ListN.{length}
use Rattle.benches_text.proofs.Reading.{Read}
use Rattle.benches_reading.proofs.read_counts.Given as goal

abbrev pub invariant-loop-at : goal.invariant-loop-at
invariant-loop-at l =
    (l.n ≡ length l.t) × (l.at ≤ length l.t) × (l.lines ≤ l.at) × (length l.counts ≡ length l.initial.counts) × Read l.t l.lines l.at l.counts

abbrev pub decreases-loop-at : goal.decreases-loop-at
decreases-loop-at l = length l.t - l.at
