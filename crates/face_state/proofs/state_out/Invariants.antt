-- `face_state::state_out` stores one word more at each turn.
-- Assumes nothing.
use mathlib.Core.Path.{◌≡◌}
use Prim.Native.Nat.{◌≤◌}
use lib.ListN.{length, take}
use Rattle.face_state.specs.States.{state_count, state_words}
use Rattle.face_state.proofs.state_out.Given as goal

abbrev pub invariant-loop-at : goal.invariant-loop-at
invariant-loop-at l = (l.at ≤ state_count) × (length l.words ≡ state_count) × (take l.at l.words ≡ take l.at (state_words l.s))
