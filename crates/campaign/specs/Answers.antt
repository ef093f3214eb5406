-- What each answer tells: the paper's number of a refusal, or the values that the call gives, as the model has them.
-- Assumes nothing.
use Rattle.std.specs.Prelude.{ℕ, ◌≡◌, false, List}
use Rattle.std.proofs.Math.Option.{Option, none, some}
use Rattle.words.specs.Told.{Told, accepted, then}
use Rattle.words.specs.Meaning as meaning
use Rattle.words.specs.Meaning.{outcome_told}
use Rattle.promise.specs.Campaign as model
use Rattle.promise.specs.Campaign.{Call, report_to, taken, stands_for}
use Rattle.plans.specs.Calls.{read_plan_of}
use Rattle.campaign_state.specs.State.{width, setting_of, moment_of}
use Rattle.campaign_state.specs.declared.State.{State}
use Rattle.campaign.specs.Calls.{answer_of, told_of, after, begun_of, line_is}
use Rattle.campaign.specs.declared.Begun.{Begun}
use Rattle.campaign.specs.declared.Requested.{Requested}
use Rattle.campaign.specs.declared.Reported.{Reported}
use Rattle.std.specs.declared.option.Option.{Option as Maybe}
use Rattle.std.specs.declared.option.Option.TheVariants.{Some, None}
use Rattle.std.specs.declared.result.Result.{Result}
use Rattle.words.specs.declared.Line.{Line}
use Rattle.words.specs.declared.Refusal.{Refusal}

-- of a request: the line that is handed out, or a refusal
abbrev pub answer_told : Result Line Refusal → Told model.Answer
answer_told r = meaning.answer_told line_is r

-- the number that a report names, if it names one
abbrev pub on_is : Maybe ℕ → Option ℕ
on_is None = none
on_is (Some m) = some m

-- of a report: taken, or refused
abbrev pub heard_told : Result (Unit {0}) Refusal → Told model.Answer
heard_told r = meaning.answer_told (λ u. taken) r

-- r is the answer a to the call c on s: what it tells, the state that it leaves, how many bytes its line takes
pub record RequestIs (c : Call) (a : model.Answer) (s : State) (r : Requested) : Type 0 where
  pub answer : answer_told r.answer ≡ told_of a
  pub state : r.campaign.state ≡ after c a s
  pub written : r.written ≡ width a

-- the same of a report, which writes nothing
pub record ReportIs (c : Call) (a : model.Answer) (s : State) (r : Reported) : Type 0 where
  pub answer : heard_told r.answer ≡ told_of a
  pub state : r.campaign.state ≡ after c a s

-- r answers every report of a kind for which no mark stands in s
abbrev pub UnheardIs : ℕ → State → Reported → Type 0
UnheardIs kind s r =
    (o : Option ℕ) → stands_for (setting_of s) o (moment_of s) ≡ false → ReportIs (report_to o kind) (answer_of (report_to o kind) s) s r

-- r is what a text begins: how it is judged, and the campaign's first state
pub record BeginIs (t : List ℕ) (r : Begun) : Type 0 where
  pub judged : outcome_told r.judged ≡ then (read_plan_of t) (λ p. accepted tt)
  pub state : r.campaign.state ≡ begun_of t
