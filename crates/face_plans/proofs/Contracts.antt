-- What the contract of the call for C says, its number, the words of its answer and the lent slice, in the definitions that the laws speak of. A clause that is lost
-- or weakened is missed here.
-- Assumes nothing.
use mathlib.Core.List.{[], ◌∷◌}
use Rattle.words.specs.Contract.{Says}
use Rattle.plan_named.specs.Calls.{named_of, named_numbers}
use Rattle.face_values.specs.Only.{Meets, result}
use Rattle.face_values.proofs.Meets.{meets-leaving}
use Rattle.face_laws.specs.Values.{names_words}
use Rattle.face_plans.proofs.jidrofex_named.Reads as named

-- jidrofex_named(text: &[u8], gaps: &mut [u64], answer: &mut [u64; 5]) -> u8
pub named-says : Says named.Learnt
    (λ κs (text, (gaps, _)) r (_, (left, (answer, _))).
    Meets names_words (named_of text.now gaps.now) (named_numbers text.now gaps.now ∷ []) (result r answer.now (left.now ∷ [])))
named-says κs a r e h = meets-leaving h
