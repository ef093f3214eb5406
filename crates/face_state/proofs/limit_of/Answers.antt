-- `face_state::limit_of`: the limits come in seven runs of equal numbers.
-- Assumes nothing.
use mathlib.Core.Path.{refl, sym}
use Prim.Native.Nat.{◌+◌}
use native.Mathlib.Omega.{arith}
use lib.ListN.{take, drop}
use Rattle.listing.specs.Limits.{most_ports, most_legs, largest64}
use Rattle.face_values.specs.Lines.{largest8}
use Rattle.face_state.specs.States.{starts_place, panel_place, step_place, errors_place, standing_place, seat_place, limits}
use Rattle.face_state.proofs.Parts.{run_at}
use Rattle.face_state.proofs.limit_of.Goals as goal

pub returns-then-at-lt-PANEL : goal.returns-then-at-lt-PANEL
returns-then-at-lt-PANEL c =
    sym (run_at (take starts_place limits) (drop panel_place limits) starts_place (most_legs + most_legs) largest64
    c.args.at refl (omega arith) (omega arith))

pub returns-then-at-lt-STEP : goal.returns-then-at-lt-STEP
returns-then-at-lt-STEP c =
    sym (run_at (take panel_place limits) (drop step_place limits) panel_place (most_ports + 1) largest8
    c.args.at refl (omega arith) (omega arith))

pub returns-then-at-lt-ERRORS : goal.returns-then-at-lt-ERRORS
returns-then-at-lt-ERRORS c =
    sym (run_at (take step_place limits) (drop errors_place limits) step_place 3 largest64
    c.args.at refl (omega arith) (omega arith))

pub returns-then-at-lt-SEAT : goal.returns-then-at-lt-SEAT
returns-then-at-lt-SEAT c =
    sym (run_at (take standing_place limits) (drop seat_place limits) standing_place 2 1
    c.args.at refl (omega arith) (omega arith))
