-- `line_refusal::wording::refusal_words` writes the words that stand beside the number.
-- Assumes nothing.
use Rattle.line_refusal.specs.Words.{quoted, words_of}
use Rattle.line_refusal.proofs.Words.{words-told, past-told}
use Rattle.line_refusal.proofs.wording.refusal_words.Goals as goal

pub returns-in-0-clause-answer : goal.returns-in-0-clause-answer
unfolding words_of quoted
returns-in-0-clause-answer c = (words-told _ _ 0 c.in-0.is (c.write_text.ensures.answer, c.write_text.ensures.bytes)).0

pub returns-in-0-clause-bytes : goal.returns-in-0-clause-bytes
unfolding words_of quoted
returns-in-0-clause-bytes c = (words-told _ _ 0 c.in-0.is (c.write_text.ensures.answer, c.write_text.ensures.bytes)).1

pub returns-in-1-clause-answer : goal.returns-in-1-clause-answer
unfolding words_of quoted
returns-in-1-clause-answer c = (words-told _ _ 1 c.in-1.is (c.write_text-in-1.ensures.answer, c.write_text-in-1.ensures.bytes)).0

pub returns-in-1-clause-bytes : goal.returns-in-1-clause-bytes
unfolding words_of quoted
returns-in-1-clause-bytes c = (words-told _ _ 1 c.in-1.is (c.write_text-in-1.ensures.answer, c.write_text-in-1.ensures.bytes)).1

pub returns-in-2-clause-answer : goal.returns-in-2-clause-answer
unfolding words_of quoted
returns-in-2-clause-answer c = (words-told _ _ 2 c.in-2.is (c.write_text-in-2.ensures.answer, c.write_text-in-2.ensures.bytes)).0

pub returns-in-2-clause-bytes : goal.returns-in-2-clause-bytes
unfolding words_of quoted
returns-in-2-clause-bytes c = (words-told _ _ 2 c.in-2.is (c.write_text-in-2.ensures.answer, c.write_text-in-2.ensures.bytes)).1

pub returns-in-3-clause-answer : goal.returns-in-3-clause-answer
unfolding words_of quoted
returns-in-3-clause-answer c = (words-told _ _ 3 c.in-3.is (c.write_text-in-3.ensures.answer, c.write_text-in-3.ensures.bytes)).0

pub returns-in-3-clause-bytes : goal.returns-in-3-clause-bytes
unfolding words_of quoted
returns-in-3-clause-bytes c = (words-told _ _ 3 c.in-3.is (c.write_text-in-3.ensures.answer, c.write_text-in-3.ensures.bytes)).1

pub returns-in-4-clause-answer : goal.returns-in-4-clause-answer
unfolding words_of quoted
returns-in-4-clause-answer c = (words-told _ _ 4 c.in-4.is (c.write_text-in-4.ensures.answer, c.write_text-in-4.ensures.bytes)).0

pub returns-in-4-clause-bytes : goal.returns-in-4-clause-bytes
unfolding words_of quoted
returns-in-4-clause-bytes c = (words-told _ _ 4 c.in-4.is (c.write_text-in-4.ensures.answer, c.write_text-in-4.ensures.bytes)).1

pub returns-in-5-clause-answer : goal.returns-in-5-clause-answer
unfolding words_of quoted
returns-in-5-clause-answer c = (words-told _ _ 5 c.in-5.is (c.write_text-in-5.ensures.answer, c.write_text-in-5.ensures.bytes)).0

pub returns-in-5-clause-bytes : goal.returns-in-5-clause-bytes
unfolding words_of quoted
returns-in-5-clause-bytes c = (words-told _ _ 5 c.in-5.is (c.write_text-in-5.ensures.answer, c.write_text-in-5.ensures.bytes)).1

pub returns-in-6-clause-answer : goal.returns-in-6-clause-answer
unfolding words_of quoted
returns-in-6-clause-answer c = (words-told _ _ 6 c.in-6.is (c.write_text-in-6.ensures.answer, c.write_text-in-6.ensures.bytes)).0

pub returns-in-6-clause-bytes : goal.returns-in-6-clause-bytes
unfolding words_of quoted
returns-in-6-clause-bytes c = (words-told _ _ 6 c.in-6.is (c.write_text-in-6.ensures.answer, c.write_text-in-6.ensures.bytes)).1

pub returns-in-7-clause-answer : goal.returns-in-7-clause-answer
unfolding words_of quoted
returns-in-7-clause-answer c = (words-told _ _ 7 c.in-7.is (c.write_text-in-7.ensures.answer, c.write_text-in-7.ensures.bytes)).0

pub returns-in-7-clause-bytes : goal.returns-in-7-clause-bytes
unfolding words_of quoted
returns-in-7-clause-bytes c = (words-told _ _ 7 c.in-7.is (c.write_text-in-7.ensures.answer, c.write_text-in-7.ensures.bytes)).1

pub returns-in-8-clause-answer : goal.returns-in-8-clause-answer
unfolding words_of quoted
returns-in-8-clause-answer c = (words-told _ _ 8 c.in-8.is (c.write_text-in-8.ensures.answer, c.write_text-in-8.ensures.bytes)).0

pub returns-in-8-clause-bytes : goal.returns-in-8-clause-bytes
unfolding words_of quoted
returns-in-8-clause-bytes c = (words-told _ _ 8 c.in-8.is (c.write_text-in-8.ensures.answer, c.write_text-in-8.ensures.bytes)).1

pub returns-in-9-clause-answer : goal.returns-in-9-clause-answer
unfolding words_of quoted
returns-in-9-clause-answer c = (words-told _ _ 9 c.in-9.is (c.write_text-in-9.ensures.answer, c.write_text-in-9.ensures.bytes)).0

pub returns-in-9-clause-bytes : goal.returns-in-9-clause-bytes
unfolding words_of quoted
returns-in-9-clause-bytes c = (words-told _ _ 9 c.in-9.is (c.write_text-in-9.ensures.answer, c.write_text-in-9.ensures.bytes)).1

pub returns-in-10-clause-answer : goal.returns-in-10-clause-answer
unfolding words_of quoted
returns-in-10-clause-answer c = (words-told _ _ 10 c.in-10.is (c.write_text-in-10.ensures.answer, c.write_text-in-10.ensures.bytes)).0

pub returns-in-10-clause-bytes : goal.returns-in-10-clause-bytes
unfolding words_of quoted
returns-in-10-clause-bytes c = (words-told _ _ 10 c.in-10.is (c.write_text-in-10.ensures.answer, c.write_text-in-10.ensures.bytes)).1

pub returns-in-11-clause-answer : goal.returns-in-11-clause-answer
unfolding words_of quoted
returns-in-11-clause-answer c = (words-told _ _ 11 c.in-11.is (c.write_text-in-11.ensures.answer, c.write_text-in-11.ensures.bytes)).0

pub returns-in-11-clause-bytes : goal.returns-in-11-clause-bytes
unfolding words_of quoted
returns-in-11-clause-bytes c = (words-told _ _ 11 c.in-11.is (c.write_text-in-11.ensures.answer, c.write_text-in-11.ensures.bytes)).1

-- those of 12
pub returns-in-12-clause-answer : goal.returns-in-12-clause-answer
unfolding words_of quoted
returns-in-12-clause-answer c = (words-told _ _ 12 c.in-12.is (c.write_text-in-12.ensures.answer, c.write_text-in-12.ensures.bytes)).0

pub returns-in-12-clause-bytes : goal.returns-in-12-clause-bytes
unfolding words_of quoted
returns-in-12-clause-bytes c = (words-told _ _ 12 c.in-12.is (c.write_text-in-12.ensures.answer, c.write_text-in-12.ensures.bytes)).1

pub returns-in-13-clause-answer : goal.returns-in-13-clause-answer
unfolding words_of quoted
returns-in-13-clause-answer c = (words-told _ _ 13 c.in-13.is (c.write_text-in-13.ensures.answer, c.write_text-in-13.ensures.bytes)).0

pub returns-in-13-clause-bytes : goal.returns-in-13-clause-bytes
unfolding words_of quoted
returns-in-13-clause-bytes c = (words-told _ _ 13 c.in-13.is (c.write_text-in-13.ensures.answer, c.write_text-in-13.ensures.bytes)).1

pub returns-in-14-clause-answer : goal.returns-in-14-clause-answer
unfolding words_of quoted
returns-in-14-clause-answer c = (words-told _ _ 14 c.in-14.is (c.write_text-in-14.ensures.answer, c.write_text-in-14.ensures.bytes)).0

pub returns-in-14-clause-bytes : goal.returns-in-14-clause-bytes
unfolding words_of quoted
returns-in-14-clause-bytes c = (words-told _ _ 14 c.in-14.is (c.write_text-in-14.ensures.answer, c.write_text-in-14.ensures.bytes)).1

pub returns-in-15-clause-answer : goal.returns-in-15-clause-answer
unfolding words_of quoted
returns-in-15-clause-answer c = (words-told _ _ 15 c.in-15.is (c.write_text-in-15.ensures.answer, c.write_text-in-15.ensures.bytes)).0

pub returns-in-15-clause-bytes : goal.returns-in-15-clause-bytes
unfolding words_of quoted
returns-in-15-clause-bytes c = (words-told _ _ 15 c.in-15.is (c.write_text-in-15.ensures.answer, c.write_text-in-15.ensures.bytes)).1

pub returns-in-16-clause-answer : goal.returns-in-16-clause-answer
unfolding words_of quoted
returns-in-16-clause-answer c = (words-told _ _ 16 c.in-16.is (c.write_text-in-16.ensures.answer, c.write_text-in-16.ensures.bytes)).0

pub returns-in-16-clause-bytes : goal.returns-in-16-clause-bytes
unfolding words_of quoted
returns-in-16-clause-bytes c = (words-told _ _ 16 c.in-16.is (c.write_text-in-16.ensures.answer, c.write_text-in-16.ensures.bytes)).1

pub returns-in-17-clause-answer : goal.returns-in-17-clause-answer
unfolding words_of quoted
returns-in-17-clause-answer c = (words-told _ _ 17 c.in-17.is (c.write_text-in-17.ensures.answer, c.write_text-in-17.ensures.bytes)).0

pub returns-in-17-clause-bytes : goal.returns-in-17-clause-bytes
unfolding words_of quoted
returns-in-17-clause-bytes c = (words-told _ _ 17 c.in-17.is (c.write_text-in-17.ensures.answer, c.write_text-in-17.ensures.bytes)).1

-- those of a number that no refusal has
pub returns-in_default-clause-answer : goal.returns-in_default-clause-answer
unfolding quoted
returns-in_default-clause-answer c = (past-told _ _ c.in_default.in_default-own.rest (c.write_text-in_default.ensures.answer, c.write_text-in_default.ensures.bytes)).0

pub returns-in_default-clause-bytes : goal.returns-in_default-clause-bytes
unfolding quoted
returns-in_default-clause-bytes c = (past-told _ _ c.in_default.in_default-own.rest (c.write_text-in_default.ensures.answer, c.write_text-in_default.ensures.bytes)).1
