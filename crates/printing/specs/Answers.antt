-- What the printer tells: how many bytes it printed and whether the end's line is among them, or the refusal where it printed none.
-- Assumes nothing.
use Rattle.std.specs.Prelude.{ℕ, zero, suc, ◌+◌, ◌≡◌, Bool, true, false, not, List, length}
use Rattle.words.specs.Told.{Told, accepted, refused, then}
use Rattle.words.specs.Meaning.{refusal_of, outcome_told}
use Rattle.promise.specs.Campaign.{request}
use Rattle.line_format.specs.Calls.{over}
use Rattle.campaign_state.specs.State.{width}
use Rattle.campaign_state.specs.declared.State.{State}
use Rattle.plans.specs.Calls.{read_plan_of}
use Rattle.campaign.specs.Calls.{answer_of, begun_of}
use Rattle.printing.specs.Rehearsals.{rehearsal_of, state_of}
use Rattle.printing.specs.Printing.{sequel, onward, lines_in}
use Rattle.printing.specs.declared.Filled.{Filled}
use Rattle.printing.specs.declared.Filled.TheVariants.{Lines, Ended as Filled-Ended, Refused as Filled-Refused}
use Rattle.printing.specs.declared.Printed.{Printed}
use Rattle.printing.specs.declared.Rehearsal.{Rehearsal}
use Rattle.printing.specs.declared.Rehearsed.{Rehearsed}
use Rattle.printing.specs.declared.Lined.{Lined}
use Rattle.printing.specs.declared.Sequel.{Sequel}
use Rattle.printing.specs.declared.Sequel.TheVariants.{More, Ended as Sequel-Ended, Refused as Sequel-Refused}
use Rattle.printing.specs.declared.Given.{Given}

abbrev pub sequel_told : Sequel → Told Bool
sequel_told More = accepted true
sequel_told Sequel-Ended = accepted false
sequel_told (Sequel-Refused f) = refusal_of f

abbrev pub filled_told : Filled → Told (ℕ × Bool)
filled_told (Lines n) = accepted (n, false)
filled_told (Filled-Ended n) = accepted (n, true)
filled_told (Filled-Refused f) = refusal_of f

-- so many bytes, and what followed the last answer: a refusal is told where there is no byte
abbrev pub stop_told : ℕ → Told Bool → Told (ℕ × Bool)
stop_told n (accepted b) = accepted (n, not b)
stop_told zero (refused k p) = refused k p
stop_told (suc n) (refused k p) = accepted (suc n, false)

-- what is told of a buffer with so much room
abbrev pub fill_of : ℕ → State → Told (ℕ × Bool)
fill_of room s = stop_told (length (lines_in room s).text) (sequel (lines_in room s).stop)

-- the bytes that are left: the lines at the front, and later bytes keep their values
abbrev pub fill_bytes : State → List ℕ → List ℕ
fill_bytes s buf = over (lines_in (length buf) s).text buf

-- p is what was printed into so much room from the rehearsal r
pub record PrintedIs (room : ℕ) (r : Rehearsal) (p : Printed) : Type 0 where
  pub told : filled_told p.filled ≡ fill_of room (state_of r)
  pub rehearsal : p.rehearsal ≡ rehearsal_of (lines_in room (state_of r)).left

-- r is what a text is rehearsed as: how it is judged, and the rehearsal at its first moment, all zeros if it is refused
pub record RehearsedIs (t : List ℕ) (r : Rehearsed) : Type 0 where
  pub judged : outcome_told r.judged ≡ then (read_plan_of t) (λ p. accepted tt)
  pub rehearsal : r.rehearsal ≡ rehearsal_of (begun_of t)

-- r is what was printed into so much room from the state s
pub record LinedIs (room : ℕ) (s : State) (r : Lined) : Type 0 where
  pub told : filled_told r.filled ≡ fill_of room s
  pub state : r.campaign.state ≡ (lines_in room s).left

-- r is what one request with so much room gave, its line at a place
pub record GivenIs (room at : ℕ) (s : State) (r : Given) : Type 0 where
  pub told : sequel_told r.sequel ≡ sequel (answer_of (request room) s)
  pub state : r.campaign.state ≡ onward room s
  pub place : r.at ≡ at + width (answer_of (request room) s)
