-- `panel::lookups::jack_of` tells the refusal of a panel that may not be asked for the port, or the first jack that holds it.
-- Assumes nothing.
use mathlib.Core.Path.{ap, ◌∙◌}
use Rattle.listing.specs.Limits.{most_ports}
use Rattle.words.specs.Told.{accepted}
use Rattle.pattern_check.proofs.Passed.{passed-on}
use Rattle.panel.specs.Calls.{jack_of}
use Rattle.panel.proofs.Joined.{asked, answered, not-asked}
use Rattle.panel.proofs.lookups.jack_of.Goals as goal

pub returns-in_err-may_ask : goal.returns-in_err-may_ask
unfolding jack_of
returns-in_err-may_ask c = passed-on _ _ _ c.from_residual.ensures.1 ∙ not-asked most_ports _ _ _ c.in_err-may_ask.ensures

pub holder-requires : goal.holder-requires
holder-requires c = (asked most_ports _ _ c.in_ok-may_ask.ensures).0.high

pub returns : goal.returns
unfolding jack_of
returns c = ap accepted c.holder.ensures ∙ answered most_ports _ _ _ c.in_ok-may_ask.ensures
