-- What the contract of each call says, in the definitions that the laws speak of. A clause that is lost or weakened is missed here.
-- Assumes nothing.
use mathlib.Core.Path.{◌≡◌}
use mathlib.Core.Bool.{true, false}
use Rattle.listing.specs.Limits.{most_ports}
use Rattle.words.specs.Contract.{Says}
use Rattle.words.specs.Meaning.{outcome_told}
use Rattle.pattern_check.specs.Calls.{check_as}
use Rattle.pattern_check.proofs.checking.check.Reads as check
use Rattle.pattern_check.proofs.checking.check_panel.Reads as check-panel

-- check(p: &[u8]) -> Outcome
pub check-says : Says check.Learnt (λ κs (p, _) r e. outcome_told r ≡ check_as true most_ports p.now)
check-says κs a r e h = h

-- check_panel(p: &[u8]) -> Outcome
pub check-panel-says : Says check-panel.Learnt (λ κs (p, _) r e. outcome_told r ≡ check_as false most_ports p.now)
check-panel-says κs a r e h = h
