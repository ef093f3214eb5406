-- `pattern_moves::onward::move_on` meets its contract: the row of the lowest open level, lifted, or the closing step.
-- Assumes nothing.
use mathlib.Core.Path.{ap, ◌∙◌}
use mathlib.Core.Bool.{cond}
use Rattle.listing.specs.Orders.{Move, inverse}
use Rattle.pattern_moves.proofs.Lifts.{sought-ends, sought-goes}
use Rattle.pattern_moves.proofs.onward.move_on.Goals as goal

pub returns-then-o-eq0 : goal.returns-then-o-eq0
returns-then-o-eq0 c =
    c.inverse_if.ensures
    ∙ ap (λ (x : Move). cond c.args.back (inverse x) x) c.closing.ensures
    ∙ sought-ends _ _ _ _ _ c.requires.sought c.if-o-eq0.true

pub returns-else-o-eq0 : goal.returns-else-o-eq0
returns-else-o-eq0 c =
    sought-goes _ _ _ _ _ c.requires.sought c.if-o-eq0.false _ (rw c.row_of.ensures at c.lifted.ensures)
