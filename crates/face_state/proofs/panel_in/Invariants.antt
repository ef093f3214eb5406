-- `face_state::panel_in` stores one word more at each turn.
-- Assumes nothing.
use mathlib.Core.Path.{◌≡◌}
use Prim.Native.Nat.{ℕ, ◌≤◌}
use lib.ListN.{length}
use Rattle.listing.specs.Limits.{most_ports}
use Rattle.face_state.specs.States.{panel_place, state_count}
use Rattle.face_state.proofs.Parts.{Filled}
use Rattle.face_state.proofs.panel_in.Given as goal

abbrev pub invariant-loop-i : goal.invariant-loop-i
invariant-loop-i l = (l.i ≤ most_ports) × (length l.words ≡ state_count) × (length l.panel ≡ most_ports) × Filled (λ (w : ℕ). w) l.words panel_place l.panel l.i
