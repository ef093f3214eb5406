-- `panel::lookups::port_at` tells the refusal of a panel that may not be asked for the jack, or the port: jack j stands at index j - 1.
-- Assumes nothing.
use mathlib.Core.Path.{ap, ◌∙◌}
use native.Mathlib.Omega.{arith}
use Rattle.listing.specs.Limits.{most_ports}
use Rattle.words.specs.Told.{accepted}
use Rattle.pattern_check.proofs.Passed.{passed-on}
use Rattle.panel.specs.Calls.{port_of}
use Rattle.panel.proofs.Accepted.{jack-entry}
use Rattle.panel.proofs.Joined.{asked, answered, not-asked}
use Rattle.panel.proofs.lookups.port_at.Goals as goal

-- the jack is one of the panel's
pub overflow_sub-result : goal.overflow_sub-result
overflow_sub-result c = omega (arith, (asked most_ports _ _ c.in_ok-may_ask.ensures).1)

pub bounds-panel-jack : goal.bounds-panel-jack
bounds-panel-jack c = omega (arith, (asked most_ports _ _ c.in_ok-may_ask.ensures).1)

pub returns-in_err-may_ask : goal.returns-in_err-may_ask
unfolding port_of
returns-in_err-may_ask c = passed-on _ _ _ c.from_residual.ensures.1 ∙ not-asked most_ports _ _ _ c.in_err-may_ask.ensures

pub returns : goal.returns
unfolding port_of
returns c =
    ap accepted (jack-entry c.args.panel.now _ (asked most_ports _ _ c.in_ok-may_ask.ensures).1.0) ∙ answered most_ports _ _ _ c.in_ok-may_ask.ensures
