-- `line_sentence::words_of`: any words fit 49 bytes, so they are written at the front of the array.
-- Assumes nothing.
use borrow.Author.Rules.{rules}
use Rattle.line_sentence.proofs.Writing.{words-fit, words-never}
use Rattle.line_sentence.proofs.words_of.Goals as goal

pub returns-in-Ok-clause-front : goal.returns-in-Ok-clause-front
returns-in-Ok-clause-front c = (words-fit c.args.number _ (search rules) c.refusal_words-written.result c.refusal_words-written.ensures.answer _ _ c.in-Ok.is c.refusal_words-written.ensures.bytes).0

pub returns-in-Ok-clause-len : goal.returns-in-Ok-clause-len
returns-in-Ok-clause-len c = (words-fit c.args.number _ (search rules) c.refusal_words-written.result c.refusal_words-written.ensures.answer _ _ c.in-Ok.is c.refusal_words-written.ensures.bytes).1

-- words are never refused here
pub returns-in-Err-clause-front : goal.returns-in-Err-clause-front
returns-in-Err-clause-front c = absurd (words-never c.args.number _ (search rules) c.refusal_words-written.result c.refusal_words-written.ensures.answer _ c.in-Err.is)

pub returns-in-Err-clause-len : goal.returns-in-Err-clause-len
returns-in-Err-clause-len c = absurd (words-never c.args.number _ (search rules) c.refusal_words-written.result c.refusal_words-written.ensures.answer _ c.in-Err.is)
