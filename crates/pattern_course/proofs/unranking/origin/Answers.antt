-- `pattern_course::unranking::origin` meets its contract: the numbers are those of the definition, and each is small enough.
-- Assumes nothing.
use Prim.Native.Nat.{◌+◌, ◌<◌}
use native.Mathlib.Nat.{mod-lt}
use native.Mathlib.Omega.{arith}
use Rattle.pattern_steps.proofs.Blocks.{parts-size, parts-fit}
use Rattle.pattern_course.proofs.Origins.{size-some, blocks-fewer, place_inside, origin-a, origin-b}
use Rattle.pattern_course.proofs.unranking.origin.Goals as goal
use Rattle.pattern_course.proofs.unranking.origin.Goals.{After-parts_of-parts}

-- blocks have some patterns
some : (c : After-parts_of-parts) → 0 < c.parts_of-parts.result.by_a + c.parts_of-parts.result.by_b
some c = size-some c.requires.0 c.requires.2 (parts-size _ c.parts_of-parts.ensures)

pub overflow_add-size : goal.overflow_add-size
overflow_add-size c = omega (arith, parts-fit _ c.requires.1 c.parts_of-parts.ensures)

pub nonzero_div-i : goal.nonzero_div-i
nonzero_div-i c = some (goal.at.nonzero_div-i c).After-parts_of-parts

pub overflow_add-i : goal.overflow_add-i
overflow_add-i c = omega (arith, blocks-fewer c.requires.0 c.requires.2 (parts-size _ c.parts_of-parts.ensures))

pub overflow_cast-i : goal.overflow_cast-i
overflow_cast-i c = omega (arith, blocks-fewer c.requires.0 c.requires.2 (parts-size _ c.parts_of-parts.ensures))

pub nonzero_rem-rank : goal.nonzero_rem-rank
nonzero_rem-rank c = some (goal.at.nonzero_rem-rank c).After-parts_of-parts

pub turned_place-u-requires : goal.turned_place-u-requires
turned_place-u-requires c = mod-lt _ (some (goal.at.turned_place-u-requires c).After-parts_of-parts)

pub from_end-requires : goal.from_end-requires
from_end-requires c =
    let u = rw c.is_odd.ensures at c.turned_place-u.ensures in
    place_inside c.requires.0 c.requires.2 (parts-size _ c.parts_of-parts.ensures) u

pub returns-then-u-parts : goal.returns-then-u-parts
returns-then-u-parts c =
    let u = rw c.is_odd.ensures at c.turned_place-u.ensures in
    origin-a c.requires.0 c.requires.2 (parts-size _ c.parts_of-parts.ensures) u (rw c.parts_of-parts.ensures.0 at c.if-u-parts.true)

pub returns-else-u-parts : goal.returns-else-u-parts
returns-else-u-parts c =
    let u = rw c.is_odd.ensures at c.turned_place-u.ensures in
    rw c.from_end.ensures
    (origin-b c.requires.0 c.requires.2 (parts-size _ c.parts_of-parts.ensures) u (rw c.parts_of-parts.ensures.0 at c.if-u-parts.false))
