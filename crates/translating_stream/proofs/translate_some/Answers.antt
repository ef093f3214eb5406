-- `translating_stream::translate_some`: the lines before `used` are taken, and their texts stand before `len` in the buffer. Each turn passes a newline.
-- Assumes nothing.
use mathlib.Core.Path.{subst, ◌∙◌}
use native.Mathlib.Omega.{arith}
use Rattle.translating_stream.specs.Parts.{StepIs, LineWent}
use Rattle.translating_stream.proofs.Taking.{line-inside, taken-line}
use Rattle.translating_stream.proofs.translate_some.Goals as goal
use Rattle.translating_stream.proofs.translate_some.Goals.{In-Ok}

-- the line that went
went : (c : In-Ok) → LineWent c.args.text.now c.loop-after.used c.loop-after.n c.loop-after.len c.loop-after.out c.line_at.new.out
    c.in-Ok.after c.in-Ok.next c.in-Ok.end
went c = subst (StepIs _ _ _ _ _ _) c.in-Ok.is c.line_at.ensures

pub overflow_add-row : goal.overflow_add-row
overflow_add-row c =
    let i = line-inside _ _ _ _ _ _ _ _ _ c.loop-after.invariant.1 _ _ _ _ (went c) in
    omega (arith, c.loop-after.invariant.1.lines, c.requires.1)

pub loop-after-smaller : goal.loop-after-smaller
loop-after-smaller c =
    let i = line-inside _ _ _ _ _ _ _ _ _ c.loop-after.invariant.1 _ _ _ _ (went c) in
    omega arith

pub loop-after-preserved : goal.loop-after-preserved
loop-after-preserved c =
    (c.line_at.auto.out ∙ c.loop-after.invariant.0, taken-line _ _ _ _ _ _ _ _ _ c.loop-after.invariant.1 _ _ _ _ (went c))
