-- What the calls on a state or a rehearsal tell and leave where it crosses in words. The other calls tell what the calls that they wrap tell.
-- Assumes nothing.
use Rattle.std.specs.Prelude.{ℕ, Bool, false, cond, List, eqb, length}
use Rattle.std.proofs.Math.Option.{Option, none, some}
use Rattle.listing.specs.Limits.{most_ports}
use Rattle.words.specs.Told.{Told, accepted, refused, nowhere, then, need, leaves}
use Rattle.promise.specs.Campaign as model
use Rattle.promise.specs.Campaign.{Call}
use Rattle.plans.specs.Calls.{read_plan_of}
use Rattle.campaign_state.specs.declared.State.{State}
use Rattle.campaign.specs.Calls.{answer_of, told_of, left_of, bytes_of, begun_of}
use Rattle.pattern_check.specs.Calls.{check_as}
use Rattle.campaign_onward.specs.Calls.{status_of, going_on, fit_told}
use Rattle.campaign_onward.specs.declared.Whereabouts.{Whereabouts}
use Rattle.printing.specs.Printing.{lines_in}
use Rattle.printing.specs.Rehearsals.{rehearsal_of, state_of}
use Rattle.printing.specs.Answers.{fill_of, fill_bytes}
use Rattle.printing.specs.declared.Rehearsal.{Rehearsal}
use Rattle.face_state.specs.States.{state_count, state_words, state_in}
use Rattle.face_state.specs.Rehearsals.{rehearsal_count, rehearsal_words, rehearsal_in}

-- ---- what crosses in words

-- what words are, if they are one, and the words of it
pub record Crossing (S : Type 0) : Type 0 where
  pub reads : List ℕ → Option S
  pub writes : S → List ℕ

abbrev pub states : Crossing State
states = record { reads = state_in; writes = state_words }

abbrev pub rehearsals : Crossing Rehearsal
rehearsals = record { reads = rehearsal_in; writes = rehearsal_words }

-- ---- a call on it: f is what it tells of a state or a rehearsal, g what it leaves of it, h the bytes of its buffer

module _ {S : Type 0} (W : Crossing S) where
  -- 15, at no place, unless the words are one; else what is told of it
  unfoldable pub on_words : {A : Type 0} → (S → Told A) → List ℕ → Told A
  on_words f ws = then (need 15 nowhere (W.reads ws)) f

  -- the words of what is left
  abbrev pub left_in : (S → S) → Option S → List ℕ → List ℕ
  left_in g none ws = ws
  left_in g (some s) ws = W.writes (g s)

  -- the words that are left: those of what is left; 'A refused call changes nothing'
  unfoldable pub words_left : {A : Type 0} → (S → Told A) → (S → S) → List ℕ → List ℕ
  words_left f g ws = leaves (on_words f ws) (left_in g (W.reads ws) ws) ws

  -- the bytes of the buffer that are left
  abbrev pub bytes_in : (S → List ℕ → List ℕ) → Option S → List ℕ → List ℕ
  bytes_in h none buf = buf
  bytes_in h (some s) buf = h s buf

  unfoldable pub bytes_left : (S → List ℕ → List ℕ) → List ℕ → List ℕ → List ℕ
  bytes_left h ws buf = bytes_in h (W.reads ws) buf

-- ---- requests and reports

abbrev pub told_by : Call → State → Told model.Answer
told_by c s = told_of (answer_of c s)

abbrev pub called_told : Call → List ℕ → Told model.Answer
called_told c ws = on_words states (told_by c) ws

abbrev pub called_words : Call → List ℕ → List ℕ
called_words c ws = words_left states (told_by c) (left_of c) ws

abbrev pub request_bytes : List ℕ → List ℕ → List ℕ
request_bytes ws buf = bytes_left states bytes_of ws buf

-- ---- where a campaign is

abbrev pub status_in : List ℕ → Told Whereabouts
status_in ws = on_words states status_of ws

-- ---- going on after a power cut

-- the panel's own refusals first (1, 3, 4); then 15, at no place, for words that are no state, for other ports, and for a state that is not fit with the panel
unfoldable pub resume_told : List ℕ → List ℕ → Told (Unit {0})
resume_told p ws = then (check_as false most_ports p) (λ x. on_words states (λ s. fit_told s p) ws)

-- the words of the state that goes on, the panel put in and its seats begun anew; on a refusal those that were there
unfoldable pub resume_words : List ℕ → List ℕ → List ℕ
resume_words p ws = leaves (resume_told p ws) (left_in states (going_on p) (state_in ws) ws) ws

-- ---- the orders in bulk

abbrev pub print_told : ℕ → Rehearsal → Told (ℕ × Bool)
print_told room r = fill_of room (state_of r)

abbrev pub print_left : ℕ → Rehearsal → Rehearsal
print_left room r = rehearsal_of (lines_in room (state_of r)).left

abbrev pub print_bytes : Rehearsal → List ℕ → List ℕ
print_bytes r buf = fill_bytes (state_of r) buf

abbrev pub orders_told : ℕ → List ℕ → Told (ℕ × Bool)
orders_told room ws = on_words rehearsals (print_told room) ws

abbrev pub orders_words : ℕ → List ℕ → List ℕ
orders_words room ws = words_left rehearsals (print_told room) (print_left room) ws

abbrev pub orders_bytes : List ℕ → List ℕ → List ℕ
orders_bytes ws buf = bytes_left rehearsals print_bytes ws buf

-- ---- the beginning of a campaign, and of a rehearsal

-- 15, at no place, unless there are as many words as wanted; else how the text is judged
unfoldable pub judged_for : ℕ → List ℕ → List ℕ → Told (Unit {0})
judged_for many t ws = cond (eqb (length ws) many) (then (read_plan_of t) (λ p. accepted tt)) (refused 15 nowhere)

-- the words that begin it; with another length those that were there
unfoldable pub begun_with : ℕ → List ℕ → List ℕ → List ℕ
begun_with many first ws = cond (eqb (length ws) many) first ws

abbrev pub begin_told : List ℕ → List ℕ → Told (Unit {0})
begin_told t ws = judged_for state_count t ws

-- the words of the first state, or 'a state all zeros'
abbrev pub begin_words : List ℕ → List ℕ → List ℕ
begin_words t ws = begun_with state_count (state_words (begun_of t)) ws

abbrev pub rehearse_told : List ℕ → List ℕ → Told (Unit {0})
rehearse_told t ws = judged_for rehearsal_count t ws

-- the words of the rehearsal at its first moment, or all zeros
abbrev pub rehearse_words : List ℕ → List ℕ → List ℕ
rehearse_words t ws = begun_with rehearsal_count (rehearsal_words (rehearsal_of (begun_of t))) ws
