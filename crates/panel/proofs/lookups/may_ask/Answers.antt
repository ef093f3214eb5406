-- `panel::lookups::may_ask` tells the refusal of the panel, 17 for a number that it has not, or that it may be asked.
-- Assumes nothing.
use mathlib.Core.Path.{sym, ap, ◌∙◌}
use native.Mathlib.Omega.{arith}
use Rattle.listing.specs.Limits.{most_ports}
use Rattle.words.specs.Meaning.{refusal_of}
use Rattle.pattern_check.proofs.Accepted.{accepted-panel}
use Rattle.pattern_check.proofs.Passed.{passed-on}
use Rattle.panel.proofs.Accepted.{panel-refused, fitting, unfitting}
use Rattle.panel.proofs.lookups.may_ask.Goals as goal

pub returns-in_err-check_panel : goal.returns-in_err-check_panel
returns-in_err-check_panel c = passed-on _ _ _ c.from_residual.ensures.1 ∙ panel-refused most_ports _ _ _ _ _ c.in_err-check_panel.ensures

pub overflow_cast-panel : goal.overflow_cast-panel
overflow_cast-panel c = omega (arith, (accepted-panel most_ports _ c.in_ok-check_panel.ensures).high)

pub returns-then-one_of : goal.returns-then-one_of
returns-then-one_of c = fitting most_ports _ _ _ c.in_ok-check_panel.ensures (sym c.one_of.ensures ∙ c.if-one_of.true)

pub returns-else-one_of : goal.returns-else-one_of
returns-else-one_of c =
    ap refusal_of c.nowhere.ensures ∙ unfitting most_ports _ _ _ c.in_ok-check_panel.ensures (sym c.one_of.ensures ∙ c.if-one_of.false)
