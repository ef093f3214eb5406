-- `pattern_moves::neighbours::move_beside` meets its contract: the move read off the course of the pattern is the move beside its rank.
-- Assumes nothing.
use mathlib.Core.Path.{◌∙◌}
use Rattle.listing_course.proofs.Beside.{course-beside}
use Rattle.pattern_moves.proofs.neighbours.move_beside.Goals as goal

pub returns : goal.returns
returns c =
    c.move_on.ensures ∙ course-beside _ c.args.t.now.ports _ c.args.back c.requires c.take_apart-found.ensures.course
