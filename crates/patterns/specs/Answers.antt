-- What next and previous answer: the paper's number and place of a refusal, or the move that was made.
-- Assumes nothing.
use Rattle.listing.specs.Orders as list
use Rattle.words.specs.Told.{Told}
use Rattle.words.specs.Meaning.{move_of, answer_told}
use Rattle.std.specs.declared.result.Result.{Result}
use Rattle.words.specs.declared.Refusal.{Refusal}
use Rattle.words.specs.declared.Move.{Move}

abbrev pub moved_told : Result Move Refusal → Told list.Move
moved_told r = answer_told move_of r
