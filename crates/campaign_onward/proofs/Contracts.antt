-- What the contract of each call says, in the definitions that the laws speak of. A clause that is lost or weakened is missed here.
-- Assumes nothing.
use mathlib.Core.Path.{◌≡◌}
use Rattle.words.specs.Contract.{Says}
use Rattle.campaign_onward.specs.Calls.{status_of}
use Rattle.campaign_onward.specs.Answers.{status_told, ResumeIs}
use Rattle.campaign_onward.proofs.resume.Reads as resume
use Rattle.campaign_onward.proofs.status.Reads as status

-- status(c: Campaign) -> Where
pub status-says : Says status.Learnt (λ κs (c, _) r e. status_told r ≡ status_of c.state)
status-says κs a r e h = h

-- resume(c: Campaign, panel: &[u8]) -> Resumed
pub resume-says : Says resume.Learnt (λ κs (c, (panel, _)) r e. ResumeIs c.state panel.now r)
resume-says κs a r e h = h
