-- 'Covered counts exactly the marks reported as run', call by call: only a report of kind 0 that is taken adds to it, whatever the state.
-- Assumes nothing.
use Rattle.std.specs.Prelude.{ℕ, zero, suc, ◌+◌, ◌≡◌, List}
use Rattle.words.specs.Told.{Told, accepted, refused}
use Rattle.promise.specs.Campaign.{Call, request, report_to, Answer, movement, seat, mark, the_end, taken, refusal}
use Rattle.campaign_state.specs.declared.State.{State}
use Rattle.campaign.specs.Calls.{answer_of, left_of, begun_of}
use Rattle.campaign_onward.specs.Calls.{resumed_of}
use Rattle.face_state.specs.States.{covered_place, word}
use Rattle.face_laws.specs.Calls.{called_told, called_words, resume_words}

-- what a report that is taken adds to covered, by its kind: 0 is that the traffic ran
abbrev pub ran_adds : ℕ → ℕ
ran_adds zero = 1
ran_adds (suc kind) = 0

-- so much if the answer is that a report was taken, else nothing
abbrev pub if_taken : ℕ → Answer → ℕ
if_taken n (movement o) = 0
if_taken n (seat j) = 0
if_taken n (mark k r) = 0
if_taken n (the_end k) = 0
if_taken n taken = n
if_taken n (refusal k) = 0

-- what a call with this answer adds to covered: one for a report of kind 0 that was taken, else nothing
abbrev pub raised : Call → Answer → ℕ
raised (request room) a = 0
raised (report_to m kind) a = if_taken (ran_adds kind) a

-- the same by what is told
abbrev pub raised_by : Call → Told Answer → ℕ
raised_by c (accepted a) = raised c a
raised_by c (refused k p) = 0

-- of every state and every call
pub record OnlyReportsRaise : Type 0 where
  -- a request or a report
  pub state : (c : Call) (s : State) → (left_of c s).covered ≡ raised c (answer_of c s) + s.covered
  -- going on after a power cut
  pub resumed : (s : State) (p : List ℕ) → (resumed_of s p).covered ≡ s.covered
  -- the beginning
  pub first : (t : List ℕ) → (begun_of t).covered ≡ 0
  -- the same of the words for C: jidrofex_request, jidrofex_report and jidrofex_report_mark
  pub words : (c : Call) (ws : List ℕ) → word (called_words c ws) covered_place ≡ raised_by c (called_told c ws) + word ws covered_place
  -- and jidrofex_resume
  pub resumed_words : (p ws : List ℕ) → word (resume_words p ws) covered_place ≡ word ws covered_place
