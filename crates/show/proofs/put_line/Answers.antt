-- `show::put_line` writes a line into a buffer, where it lies, and then that much of the buffer.
-- Assumes nothing.
use mathlib.Core.Path.{sym}
use native.Mathlib.Omega.{arith}
use lib.Seq.{length-take-le}
use Rattle.showing.proofs.Ruled.{written-within}
use Rattle.show.proofs.put_line.Goals as goal

pub slice_bounds-buf-end : goal.slice_bounds-buf-end
slice_bounds-buf-end c = omega (arith, written-within _ _ _ c.in-Ok.ensures.answer, c.write_line.auto.buf)

pub slice_bounds-put-end : goal.slice_bounds-put-end
slice_bounds-put-end c = sym (length-take-le _ _ (omega (arith, written-within _ _ _ c.in-Ok.ensures.answer, c.write_line.auto.buf)))
