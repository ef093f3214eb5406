-- What the answer to a question says: what is asked, with the plan in its places, or the refusal.
-- Assumes nothing.
use Rattle.std.specs.Prelude.{ℕ, ◌≡◌, Bool, true, false, Result}
use Rattle.std.specs.declared.result.Result.TheVariants.{Ok, Err}
use Rattle.listing.specs.Limits.{most_legs}
use Rattle.words.specs.Told.{Told, accepted}
use Rattle.words.specs.Meaning.{refusal_of}
use Rattle.words.specs.declared.Refusal.{Refusal}
use Rattle.plan_rules.specs.Places.{placed}
use Rattle.plan_rules.specs.declared.Plan.{Plan}
use Rattle.asking.specs.Questions.{Asked}
use Rattle.asking.specs.declared.Question.{Question}
use Rattle.asking.specs.declared.Question.TheVariants.{Whole, Mark}

-- the plan of a question, whether all of it is asked for, and the mark that is
abbrev pub plan_in : Question → Plan
plan_in (Whole p) = p.plan
plan_in (Mark p k) = p.plan

abbrev pub whole_in : Question → Bool
whole_in (Whole p) = true
whole_in (Mark p k) = false

abbrev pub mark_in : Question → ℕ
mark_in (Whole p) = 0
mark_in (Mark p k) = k

-- q is what is told to be asked: the places hold the plan, and it says what is asked of the plan
pub record QuestionAsks (told : Told Asked) (q : Question) : Type 0 where
  pub asked : Asked
  pub is : told ≡ accepted asked
  pub plan : plan_in q ≡ placed most_legs asked.plan
  pub whole : whole_in q ≡ asked.whole
  pub mark : mark_in q ≡ asked.mark

-- r is the answer to what is told to be asked, or refused
abbrev pub QuestionIs : Told Asked → Result Question Refusal → Type 0
QuestionIs told (Ok q) = QuestionAsks told q
QuestionIs told (Err f) = refusal_of f ≡ told
