-- `translate::refuse_long`: the bytes that are told of the line lie in the buffer.
-- Assumes nothing.
use mathlib.Core.Path.{sym}
use native.Mathlib.Omega.{arith}
use lib.Seq.{length-take-le}
use Rattle.translate.proofs.refuse_long.Goals as goal

pub slice_bounds-refuse-end-in-Newline : goal.slice_bounds-refuse-end-in-Newline
slice_bounds-refuse-end-in-Newline c = sym (length-take-le _ c.rest_of_line.new.text (omega (arith, c.rest_of_line.auto.text, c.requires)))

pub slice_bounds-refuse-end-in-Ended-2 : goal.slice_bounds-refuse-end-in-Ended-2
slice_bounds-refuse-end-in-Ended-2 c = sym (length-take-le _ c.rest_of_line.new.text (omega (arith, c.rest_of_line.auto.text, c.requires)))
