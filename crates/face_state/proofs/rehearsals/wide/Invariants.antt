-- `face_state::rehearsals::wide` stores one word more at each turn.
-- Assumes nothing.
use mathlib.Core.Path.{◌≡◌}
use Prim.Native.Nat.{◌≤◌}
use lib.ListN.{length, take}
use Rattle.face_state.specs.States.{state_count}
use Rattle.face_state.specs.Rehearsals.{widened}
use Rattle.face_state.proofs.rehearsals.wide.Given as goal

abbrev pub invariant-loop-at : goal.invariant-loop-at
invariant-loop-at l = (l.at ≤ state_count) × (length l.state ≡ state_count) × (take l.at l.state ≡ take l.at (widened l.words))
