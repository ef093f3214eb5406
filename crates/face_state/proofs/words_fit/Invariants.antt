-- `face_state::words_fit`: the words passed so far are within their limits.
-- Assumes nothing.
use Prim.Native.Nat.{ℕ, ◌≤◌, ◌<◌}
use lib.ListN.{get_or}
use Rattle.face_state.specs.States.{state_count, limits}
use Rattle.face_state.proofs.words_fit.Given as goal

abbrev pub invariant-loop-at : goal.invariant-loop-at
invariant-loop-at l = (l.at ≤ state_count) × ((k : ℕ) → k < l.at → get_or l.words k 0 ≤ get_or limits k 0)
