-- What the contract of the call says, in the definitions that the laws speak of. A clause that is lost or weakened is missed here.
-- Assumes nothing.
use mathlib.Core.Path.{◌≡◌}
use Rattle.words.specs.Contract.{Says}
use Rattle.line_writer.specs.Answers.{written_told}
use Rattle.line_refusal.specs.Words.{refusal_words_of, refusal_words_bytes}
use Rattle.line_refusal.proofs.wording.refusal_words.Reads as refusal-words

-- refusal_words(number: u8, buf: &mut [u8]) -> Written
pub refusal-words-says : Says refusal-words.Learnt
    (λ κs (number, (buf, _)) r (_, (left, _)). (written_told r ≡ refusal_words_of number buf.now) × (left.now ≡ refusal_words_bytes number buf.now))
refusal-words-says κs a r e h = h
