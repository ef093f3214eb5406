-- What an answer of each call says.
-- Assumes nothing.
use Rattle.std.specs.Prelude.{ℕ, ◌≡◌, List}
use Rattle.words.specs.Told.{Told}
use Rattle.words.specs.Meaning.{answer_told, outcome_told}
use Rattle.campaign_state.specs.declared.State.{State}
use Rattle.campaign_onward.specs.Calls.{going_on, resume_of, goes_on}
use Rattle.campaign_onward.specs.declared.Resumed.{Resumed}
use Rattle.campaign_onward.specs.declared.Whereabouts.{Whereabouts}
use Rattle.std.specs.declared.result.Result.{Result}
use Rattle.words.specs.declared.Refusal.{Refusal}

-- where it is, or a refusal
abbrev pub status_told : Result Whereabouts Refusal → Told Whereabouts
status_told r = answer_told (λ w. w) r

-- r tells x, and its state is t if that is accepted, else s
pub record GoesIs (x : Told (Unit {0})) (t s : State) (r : Resumed) : Type 0 where
  pub judged : outcome_told r.judged ≡ x
  pub state : r.campaign.state ≡ goes_on x t s

-- r is what going on from s with the panel p answers and leaves
abbrev pub ResumeIs : State → List ℕ → Resumed → Type 0
ResumeIs s p r = GoesIs (resume_of s p) (going_on p s) s r
