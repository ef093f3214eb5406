-- What the contract of each call for C says, its number, the words of its answer and each lent slice, in the definitions that the laws speak of. A clause that
-- is lost or weakened is missed here.
-- Assumes nothing.
use mathlib.Core.List.{[], ◌∷◌}
use lib.ListN.{get_or}
use Rattle.words.specs.Contract.{Says}
use Rattle.line_refusal.specs.Words.{refusal_words_of, refusal_words_bytes}
use Rattle.line_sentence.specs.Sentences.{refusal_sentence_of, refusal_sentence_bytes}
use Rattle.face_values.specs.Answers.{version_told, one_number}
use Rattle.face_values.specs.Only.{Meets, result}
use Rattle.face_values.proofs.Meets.{meets, meets-leaving}
use Rattle.face_words.proofs.jidrofex_version.Reads as version
use Rattle.face_words.proofs.jidrofex_refusal_words.Reads as refusal-words
use Rattle.face_words.proofs.jidrofex_refusal_sentence.Reads as refusal-sentence

-- jidrofex_version(answer: &mut [u64; 5]) -> u8
pub version-says : Says version.Learnt (λ κs a r (answer, _). Meets one_number version_told [] (result r answer.now []))
version-says κs a r e h = meets h

-- jidrofex_refusal_words(number: u8, buffer: &mut [u8], answer: &mut [u64; 5]) -> u8
pub refusal-words-says : Says refusal-words.Learnt
    (λ κs (number, (buf, _)) r (_, (left, (answer, _))).
    Meets one_number (refusal_words_of number buf.now) (refusal_words_bytes number buf.now ∷ []) (result r answer.now (left.now ∷ [])))
refusal-words-says κs a r e h = meets-leaving h

-- jidrofex_refusal_sentence(number: u8, refused: &[u64; 5], buffer: &mut [u8], answer: &mut [u64; 5]) -> u8
pub refusal-sentence-says : Says refusal-sentence.Learnt
    (λ κs (number, (refused, (buf, _))) r (_, (_, (left, (answer, _)))).
    let place = get_or refused.now 0 0 in
    let earlier = get_or refused.now 1 0 in
    Meets one_number
    (refusal_sentence_of number place earlier buf.now)
    (refusal_sentence_bytes number place earlier buf.now ∷ [])
    (result r answer.now (left.now ∷ [])))
refusal-sentence-says κs a r e h = meets-leaving h
