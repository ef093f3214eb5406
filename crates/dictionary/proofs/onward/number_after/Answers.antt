-- `dictionary::onward::number_after` meets its contract: one more, or 0 where that is the count.
-- Assumes nothing.
use mathlib.Core.Path.{sym, ◌∙◌}
use native.Mathlib.Numerals.{add-one}
use native.Mathlib.Omega.{arith}
use Rattle.listing.proofs.Limits.{counts-fit}
use Rattle.listing.proofs.Neighbours.{next-on, next-round}
use Rattle.dictionary.proofs.onward.number_after.Goals as goal

pub overflow_add-number : goal.overflow_add-number
overflow_add-number c = omega (arith, c.requires.1, counts-fit _ c.requires.0)

pub returns-then-number-count_of : goal.returns-then-number-count_of
returns-then-number-count_of c = sym (next-round c.args.n c.args.number (sym (add-one _) ∙ c.if-number-count_of.true ∙ c.count_of.ensures))

pub returns-else-number-count_of : goal.returns-else-number-count_of
returns-else-number-count_of c =
    add-one _ ∙ sym (next-on c.args.n c.args.number (λ e. c.if-number-count_of.false (add-one _ ∙ e ∙ sym c.count_of.ensures)))
