-- What the contract of the call says, in the definitions that the laws speak of. A clause that is lost or weakened is missed here.
-- Assumes nothing.
use mathlib.Core.Path.{◌≡◌}
use Rattle.words.specs.Contract.{Says}
use Rattle.line_writer.specs.Answers.{written_told}
use Rattle.line_sentence.specs.Sentences.{refusal_sentence_of, refusal_sentence_bytes}
use Rattle.line_sentence.proofs.refusal_sentence.Reads as refusal-sentence

-- refusal_sentence(number: u8, place: u64, earlier: u64, buf: &mut [u8]) -> Written
pub refusal-sentence-says : Says refusal-sentence.Learnt
    (λ κs (number, (place, (earlier, (buf, _)))) r (_, (_, (_, (left, _)))).
    (written_told r ≡ refusal_sentence_of number place earlier buf.now) × (left.now ≡ refusal_sentence_bytes number place earlier buf.now))
refusal-sentence-says κs a r e h = h
