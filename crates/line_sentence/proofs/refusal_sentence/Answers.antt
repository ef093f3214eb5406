-- `line_sentence::refusal_sentence` writes its three parts one behind the other.
-- Assumes nothing.
use mathlib.Core.Path.{ap, ◌∙◌}
use native.Mathlib.Omega.{arith}
use lib.ListN.{length}
use borrow.Author.Rules.{rules}
use Rattle.line_refusal.proofs.Words.{words-longest}
use Rattle.line_sentence.proofs.Lengths.{where-longest, other-longest}
use Rattle.line_sentence.proofs.Writing.{sentence-told}
use Rattle.line_sentence.proofs.refusal_sentence.Goals as goal

pub write_three-requires : goal.write_three-requires
write_three-requires c =
    omega (
      arith,
      ap length (c.as_bytes.ensures ∙ c.where_text-before.ensures.front),
      where-longest c.args.number c.args.place (search rules),
      ap length c.words_of-words.ensures.front,
      words-longest c.args.number,
      ap length (c.as_bytes-2.ensures ∙ c.other_text-after.ensures.front),
      other-longest c.args.number c.args.earlier (search rules),
    )

-- what is written is the sentence
pub returns-clause-answer : goal.returns-clause-answer
returns-clause-answer c = let said = sentence-told c.args.number c.args.place c.args.earlier c.args.buf.now in
    (said (c.as_bytes.ensures ∙ c.where_text-before.ensures.front) c.words_of-words.ensures.front (c.as_bytes-2.ensures ∙ c.other_text-after.ensures.front) (c.write_three.ensures.answer, c.write_three.ensures.bytes)).0

pub returns-clause-bytes : goal.returns-clause-bytes
returns-clause-bytes c = let said = sentence-told c.args.number c.args.place c.args.earlier c.args.buf.now in
    (said (c.as_bytes.ensures ∙ c.where_text-before.ensures.front) c.words_of-words.ensures.front (c.as_bytes-2.ensures ∙ c.other_text-after.ensures.front) (c.write_three.ensures.answer, c.write_three.ensures.bytes)).1
