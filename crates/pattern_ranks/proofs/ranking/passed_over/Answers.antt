-- `pattern_ranks::ranking::passed_over` meets its contract: the blocks before, and the first part before the second; no more than the list has.
-- Assumes nothing.
use mathlib.Core.Path.{refl}
use native.Mathlib.Omega.{arith}
use Rattle.listing.specs.Reading.{passed, other}
use Rattle.listing.proofs.Limits.{count_most}
use Rattle.pattern_steps.proofs.Blocks.{part_count, parts-size, parts-fit}
use Rattle.pattern_levels.specs.Levels.{letter_of}
use Rattle.pattern_ranks.proofs.Passing.{passed-inside}
use Rattle.pattern_ranks.proofs.ranking.passed_over.Goals as goal

pub overflow_add-result : goal.overflow_add-result
overflow_add-result c = omega (arith, parts-fit _ c.requires.1 c.parts_of-parts.ensures)

pub overflow_mul-result : goal.overflow_mul-result
overflow_mul-result c =
    let k = rw c.block_of.ensures at c.blocks_before-blocks.ensures in
    let inside = passed-inside c.args.forward (letter_of c.args.c) c.requires.0 c.requires.2 k (parts-size _ c.parts_of-parts.ensures) refl in
    omega (arith, count_most c.args.n c.requires.1)

pub overflow_add-result-2 : goal.overflow_add-result-2
overflow_add-result-2 c =
    let w = letter_of c.args.c in
    let k = rw c.block_of.ensures at c.blocks_before-blocks.ensures in
    let f = rw (part_count (other w) _ c.parts_of-parts.ensures) at c.first_part.ensures in
    let inside = passed-inside c.args.forward w c.requires.0 c.requires.2 k (parts-size _ c.parts_of-parts.ensures) f in
    omega (arith, count_most c.args.n c.requires.1)

pub returns : goal.returns
unfolding passed
returns c =
    let w = letter_of c.args.c in
    rw (parts-size _ c.parts_of-parts.ensures, c.first_part.ensures, part_count (other w) _ c.parts_of-parts.ensures, c.blocks_before-blocks.ensures, c.block_of.ensures)
