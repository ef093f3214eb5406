-- `line_sentence::write_at` copies the text into the part from the place on: there is room for it.
-- Assumes nothing.
use mathlib.Core.Path.{◌≡◌}
use Prim.Native.Nat.{◌+◌, ◌-◌}
use native.Mathlib.Omega.{arith}
use lib.ListN.{length}
use Rattle.line_sentence.proofs.write_at.Goals as goal

pub returns : goal.returns
returns c =
    let all : c.args.at + length c.args.text.now - c.args.at ≡ length c.args.text.now = omega arith in
    rw (c.copy_from_slice.ensures.after, all)
