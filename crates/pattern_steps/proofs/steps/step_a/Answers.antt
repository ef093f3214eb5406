-- `pattern_steps::steps::step_a` meets its contract: two stores make the step, at the jack that holds i and after all.
-- Assumes nothing.
use native.Mathlib.Omega.{arith}
use Rattle.pattern_steps.proofs.Stored.{A-jack, A-made}
use Rattle.pattern_steps.proofs.steps.step_a.Goals as goal

-- the jack that was found is one of the pattern's
pub overflow_sub-at : goal.overflow_sub-at
overflow_sub-at c = omega (arith, A-jack c.args.out.now c.requires.2 c.requires.3 c.holder-jack.ensures)

pub bounds-out-at : goal.bounds-out-at
bounds-out-at c = omega (arith, A-jack c.args.out.now c.requires.2 c.requires.3 c.holder-jack.ensures)

pub returns : goal.returns
returns c =
    A-made c.args.out.now c.requires.2 c.requires.3 c.holder-jack.ensures c.requires.0
