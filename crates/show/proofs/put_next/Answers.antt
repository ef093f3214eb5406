-- `show::put_next`: what a request writes lies within its buffer.
-- Assumes nothing.
use mathlib.Core.Path.{sym}
use native.Mathlib.Omega.{arith}
use lib.Seq.{length-take-le}
use Rattle.campaign.proofs.Tells.{within-room}
use Rattle.show.proofs.put_next.Goals as goal

pub slice_bounds-buf-end : goal.slice_bounds-buf-end
slice_bounds-buf-end c = omega (arith, within-room 47 c.args.c.state, c.request-asked.ensures.told.written, c.request-asked.auto.buf)

pub slice_bounds-put-end : goal.slice_bounds-put-end
slice_bounds-put-end c =
    sym (length-take-le _ _ (omega (arith, within-room 47 c.args.c.state, c.request-asked.ensures.told.written, c.request-asked.auto.buf)))
