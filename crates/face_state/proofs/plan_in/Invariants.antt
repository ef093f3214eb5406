-- `face_state::plan_in` stores the start and the run of one leg more at each turn.
-- Assumes nothing.
use mathlib.Core.Path.{◌≡◌}
use Prim.Native.Nat.{ℕ, ◌≤◌}
use lib.ListN.{length}
use Rattle.listing.specs.Limits.{most_legs}
use Rattle.face_state.specs.States.{starts_place, runs_place, state_count, run_in}
use Rattle.face_state.proofs.Parts.{Filled}
use Rattle.face_state.proofs.plan_in.Given as goal

-- a word as it is
abbrev same : ℕ → ℕ
same w = w

abbrev pub invariant-loop-i : goal.invariant-loop-i
invariant-loop-i l =
    (l.i ≤ most_legs) × (length l.words ≡ state_count) × (length l.starts ≡ most_legs) × (length l.runs ≡ most_legs)
    × Filled same l.words starts_place l.starts l.i × Filled run_in l.words runs_place l.runs l.i
