-- What any calls on each bench's plan did, each on the state the last one left: by the contracts of the calls, and for C by the words and the bytes alone, as
-- demand three speaks of it (`demands.Three`, `demands.Words`).
-- Assumes nothing.
use Rattle.std.specs.Prelude.{ℕ, List, []}
use Rattle.std.proofs.Math.Option.{Option, none, some}
use Rattle.promise.specs.Plan.{Leg}
use Rattle.promise.specs.Bench.{acts}
use Rattle.campaign_state.specs.State.{moment_of}
use Rattle.campaign.specs.Calls.{begun_of}
use Rattle.campaign_reached.specs.Turns.{Called, turns_of, left_after}
use Rattle.face_laws.specs.Calls.{begin_words}
use Rattle.demands.specs.Words.{words_after, moment_in, turns_in, robot_in}
use Rattle.benches_laws.specs.Plans.{plan_of, one_plan_text}
use Rattle.benches_laws.specs.Union.{Did}

-- the text of a bench's plan; none has no text
abbrev pub text_of : ℕ → Option Leg → List ℕ
text_of n none = []
text_of n (some l) = one_plan_text n l

-- what calls on a plan's text did
abbrev pub did_on : List ℕ → List Called → Did
did_on t cs = record {
  turned = turns_of cs (begun_of t);
  happened = acts (turns_of cs (begun_of t));
  left = moment_of (left_after cs (begun_of t));
}

-- the same of the calls for C, with a state's words: what the robot reads from the bytes, and what the words say
abbrev pub did_in : List ℕ → List ℕ → List Called → Did
did_in t ws cs = record {
  turned = turns_in cs (begin_words t ws);
  happened = robot_in cs (begin_words t ws);
  left = moment_in (words_after cs (begin_words t ws));
}

-- on bench b among k, with the calls that were made on it; for C with the words that it was lent
abbrev pub on_bench : ℕ → ℕ → (ℕ → List Called) → ℕ → Did
on_bench n k cs b = did_on (text_of n (plan_of n k b)) (cs b)

abbrev pub on_bench_in : ℕ → ℕ → (ℕ → List ℕ) → (ℕ → List Called) → ℕ → Did
on_bench_in n k ws cs b = did_in (text_of n (plan_of n k b)) (ws b) (cs b)
