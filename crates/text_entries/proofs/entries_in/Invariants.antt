-- `text_entries::entries_in`: the entries read so far are held, and with those that the text from `at` on is they are all. Each turn passes a comma.
-- Assumes nothing.
use Prim.Native.Nat.{◌-◌, ◌≤◌}
use lib.ListN.{length}
use Rattle.text_entries.proofs.Places.{Reading}
use Rattle.text_entries.proofs.entries_in.Given as goal

abbrev pub invariant-loop-n : goal.invariant-loop-n
invariant-loop-n l = (l.at ≤ length l.t) × Reading l.t l.held l.at

abbrev pub decreases-loop-n : goal.decreases-loop-n
decreases-loop-n l = length l.t - l.at
