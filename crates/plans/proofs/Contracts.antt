-- What the contract of the call says, in the definitions that the laws speak of. A clause that is lost or weakened is missed here.
-- Assumes nothing.
use Rattle.listing.specs.Limits.{most_legs}
use Rattle.words.specs.Contract.{Says}
use Rattle.plans.specs.Calls.{read_plan_of}
use Rattle.plans.specs.Answers.{Answers}
use Rattle.plans.proofs.reading.read_plan.Reads as read-plan

-- read_plan(text: &[u8]) -> ReadPlan
pub read-plan-says : Says read-plan.Learnt (λ κs (text, _) r e. Answers most_legs (read_plan_of text.now) r)
read-plan-says κs a r e h = h
