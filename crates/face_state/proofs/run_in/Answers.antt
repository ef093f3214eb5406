-- `face_state::run_in`: bits below 2^63 are the run as they are; any other is -1 less what is missing to the largest.
-- Assumes nothing.
use native.Mathlib.Omega.{arith}
use Rattle.face_state.proofs.Runs.{ahead_in, behind-in}
use Rattle.face_state.proofs.run_in.Goals as goal

pub returns-then-w-lt-SIGNED_LIMIT : goal.returns-then-w-lt-SIGNED_LIMIT
returns-then-w-lt-SIGNED_LIMIT c = ahead_in c.args.w c.if-w-lt-SIGNED_LIMIT.true

pub returns-else-w-lt-SIGNED_LIMIT : goal.returns-else-w-lt-SIGNED_LIMIT
returns-else-w-lt-SIGNED_LIMIT c = behind-in c.args.w (omega arith) c.if-w-lt-SIGNED_LIMIT.false
