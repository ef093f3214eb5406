-- What the contract of the call says, in the definitions that the laws speak of. A clause that is lost or weakened is missed here.
-- Assumes nothing.
use mathlib.Core.Path.{◌≡◌}
use Rattle.words.specs.Contract.{Says}
use Rattle.plan_named.specs.Calls.{named_of, named_numbers}
use Rattle.plan_named.specs.Answers.{survey_told}
use Rattle.plan_named.proofs.named.Reads as named

-- named(text: &[u8], gaps: &mut [u64]) -> Survey
pub named-says : Says named.Learnt
    (λ κs (text, (gaps, _)) r (_, (left, _)). (survey_told r ≡ named_of text.now gaps.now) × (left.now ≡ named_numbers text.now gaps.now))
named-says κs a r e h = h
