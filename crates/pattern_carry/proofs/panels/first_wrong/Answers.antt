-- `pattern_carry::panels::first_wrong` gives the first jack at which two panels differ: those up to `at` are right, so those after it decide.
-- Assumes nothing.
use mathlib.Core.Path.{sym, ◌∙◌}
use borrow.Author.Rules.{rules}
use Rattle.pattern_carry.proofs.Differ.{found-wrong, found_right, none_left}
use Rattle.pattern_carry.proofs.panels.first_wrong.Goals as goal

pub returns-then-p-at : goal.returns-then-p-at
returns-then-p-at c =
    sym (c.loop-at.invariant ∙ found-wrong c.args.n _ _ c.loop-at.at (search rules) c.if-p-at.true)

pub loop-at-preserved : goal.loop-at-preserved
loop-at-preserved c =
    c.loop-at.invariant ∙ found_right c.args.n _ _ c.loop-at.at (search rules) c.if-p-at.false

pub returns : goal.returns
returns c =
    sym (c.loop-at.invariant ∙ none_left c.args.n _ _ c.loop-at.at c.loop-at-test.false)
