-- `pattern_steps::counts::block_size` meets its contract: the two parts together.
-- Assumes nothing.
use native.Mathlib.Omega.{arith}
use Rattle.pattern_steps.proofs.Blocks.{parts-fit}
use Rattle.pattern_steps.proofs.counts.block_size.Goals as goal

pub overflow_add-result : goal.overflow_add-result
overflow_add-result c = omega (arith, parts-fit _ c.requires.1 c.parts_of-parts.ensures)
