-- What the contract of the call says, as a law over the contract itself: the answer is what the text asks.
-- Assumes nothing.
use Rattle.words.specs.Contract.{Says}
use Rattle.asking.specs.Questions.{question_of}
use Rattle.asking.specs.Answers.{QuestionIs}
use Rattle.asking.proofs.ask.Reads as ask

pub ask-says : Says ask.Learnt (λ κs (text, _) r e. QuestionIs (question_of text.now) r)
ask-says κs a r e h = h
