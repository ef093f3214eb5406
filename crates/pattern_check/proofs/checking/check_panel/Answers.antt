-- `pattern_check::checking::check_panel` tells what `check_as` says: refusal 1 for the length, else the first fault.
-- Assumes nothing.
use mathlib.Core.Path.{◌∙◌}
use Rattle.listing.specs.Limits.{most_ports}
use Rattle.pattern_check.specs.Calls.{check_as}
use Rattle.pattern_check.proofs.Calls.{size-accepted, size-refused, check-fault}
use Rattle.pattern_check.proofs.Passed.{passed-as, passed-on}
use Rattle.pattern_check.proofs.checking.check_panel.Goals as goal

pub returns-in_err-sized : goal.returns-in_err-sized
unfolding check_as
returns-in_err-sized c = passed-on _ _ _ c.from_residual.ensures.1 ∙ size-refused _ _ _ _ _ c.in_err-sized.ensures

pub fault-requires : goal.fault-requires
fault-requires c = (size-accepted _ _ c.in_ok-sized.ensures).1

pub returns-in_err-fault : goal.returns-in_err-fault
returns-in_err-fault c =
    let size = size-accepted _ _ c.in_ok-sized.ensures in
    passed-as _ _ _ c.from_residual-in_err-fault.ensures.1 ∙ check-fault _ most_ports _ _ size.0 size.1 c.in_err-fault.ensures

pub returns : goal.returns
returns c =
    let size = size-accepted _ _ c.in_ok-sized.ensures in
    check-fault _ most_ports _ _ size.0 size.1 c.in_ok-fault.ensures
