-- `face_state::rehearsals::rehearsal_out` stores one word more at each turn.
-- Assumes nothing.
use mathlib.Core.Path.{◌≡◌}
use Prim.Native.Nat.{◌≤◌}
use lib.ListN.{length, take}
use Rattle.printing.specs.Rehearsals.{rehearsal_of}
use Rattle.face_state.specs.Rehearsals.{rehearsal_count, rehearsal_words}
use Rattle.face_state.proofs.rehearsals.rehearsal_out.Given as goal

abbrev pub invariant-loop-at : goal.invariant-loop-at
invariant-loop-at l = (l.at ≤ rehearsal_count) × (length l.words ≡ rehearsal_count) × (take l.at l.words ≡ take l.at (rehearsal_words (rehearsal_of l.s)))
