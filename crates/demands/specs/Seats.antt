-- Request 4, 'Reseat after an error', as one record over the definitions that the public calls meet.
-- Assumes nothing.
use Rattle.std.specs.Prelude.{ℕ, ◌+◌, ◌≤◌, ◌<◌, ◌≡◌, ◌≢◌, true, List, ◌++◌, length}
use Rattle.std.proofs.Math.Option.{Option}
use Rattle.listing.specs.Numbers.{Among}
use Rattle.listing.specs.Limits.{most_ports, largest64}
use Rattle.words.specs.Told.{accepted, refused, nowhere}
use Rattle.words.specs.Meaning.{jack_at}
use Rattle.words.specs.declared.Jack.{Jack}
use Rattle.words.specs.declared.Line.TheVariants.{Seat}
use Rattle.pattern_check.proofs.Accepted.{Panel}
use Rattle.line_format.specs.Format.{line_text}
use Rattle.line_format.specs.Reading.{read_of}
use Rattle.line_format.specs.Calls.{write_of}
use Rattle.panel.specs.Calls.{carry_of, carry_bytes}
use Rattle.promise.specs.Campaign.{Call, request, report_to, is_error, seat, taken, refusal, seat_after, wanted}
use Rattle.promise.specs.Bench.{acts, reports}
use Rattle.promise.specs.Seats.{Reseated, seats_done, RowAfterErrors}
use Rattle.campaign_state.specs.State.{setting_of, moment_of}
use Rattle.campaign_state.specs.Fitness.{fit}
use Rattle.campaign_state.specs.declared.State.{State}
use Rattle.campaign.specs.Calls.{answer_of, left_of}
use Rattle.campaign_onward.specs.Calls.{resume_of, resumed_of}
use Rattle.campaign_reached.specs.Turns.{AcceptedPlan, begun, Called, turns_of}
use Rattle.face_state.specs.States.{state_count}
use Rattle.face_laws.specs.Calls.{begin_words}
use Rattle.demands.specs.Robot.{robot_acts}
use Rattle.demands.specs.Words.{robot_in}

pub record ReseatAfterError : Type 0 where
  -- ---- what a bench gets, on any accepted plan and with any calls
  -- 'a request after an error first gives the order `seat=j` for each jack from 1 to n, one per request, and then the mark again'; and no seat comes but so
  pub comes : (P : AcceptedPlan) (cs : List Called) → Reseated P.plan.ports (acts (turns_of cs (begun P)))
  -- the same error by error: what happens after one is, as far as it goes, seat 1 to seat n and then its mark
  pub row : (P : AcceptedPlan) (cs : List Called) → RowAfterErrors P.plan.ports (acts (turns_of cs (begun P)))
  -- so a campaign without errors has no seats: it hands out what it did before the request
  pub without : (P : AcceptedPlan) (cs : List Called) → reports is_error (acts (turns_of cs (begun P))) ≡ 0 → seats_done (acts (turns_of cs (begun P))) ≡ 0
  -- the same of what a robot reads from the bytes alone, and of the calls for C
  pub bytes : (P : AcceptedPlan) (cs : List Called) → Reseated P.plan.ports (robot_acts cs (begun P))
  pub words : (P : AcceptedPlan) (ws : List ℕ) → length ws ≡ state_count → (cs : List Called) → Reseated P.plan.ports (robot_in cs (begin_words P.text ws))
  -- ---- the order
  -- 'A seat order is no movement and leaves the panel's pattern as it is'
  pub stays : (j : Jack) (p : List ℕ) → carry_bytes most_ports (Seat j) p ≡ p
  -- 'The order reader accepts the new line': wherever it stands; and no other jack is read
  pub reads : (j : ℕ) → Among most_ports j → (before later : List ℕ) → let t = line_text (Seat (jack_at j)) in
      read_of largest64 most_ports (before ++ (t ++ later)) (length before) ≡ accepted (Seat (jack_at j), length before + length t)
  pub reads_only : (t : List ℕ) (place : ℕ) (j : Jack) (next : ℕ) → read_of largest64 most_ports t place ≡ accepted (Seat j, next) → Among most_ports j.0
  -- ---- 'The state gains the next jack to seat, 0 for none'
  -- an error that is taken makes it 1
  pub after_error : (o : Option ℕ) (s : State) → answer_of (report_to o 1) s ≡ taken → (left_of (report_to o 1) s).seat ≡ 1
  -- a seat that is given is that jack, and leaves the one after it, none after the last
  pub after_seat : (room : ℕ) (s : State) (j : ℕ) → answer_of (request room) s ≡ seat j
      → (j ≡ s.seat) × ((left_of (request room) s).seat ≡ seat_after s.plan.ports j)
  -- going on after a power cut begins the seats anew
  pub begun_anew : (s : State) (p : List ℕ) → resume_of s p ≡ accepted tt → 0 < s.seat → (resumed_of s p).seat ≡ 1
  pub none_anew : (s : State) (p : List ℕ) → resume_of s p ≡ accepted tt → s.seat ≡ 0 → (resumed_of s p).seat ≡ 0
  -- ---- 'Refusals: 12 also while seating'
  pub twelve : (s : State) → fit s ≡ true → 0 < s.seat → (o : Option ℕ) (kind : ℕ) → kind ≤ 2 → answer_of (report_to o kind) s ≡ refusal 12
  -- '15 also for a seat number above n'
  pub above_n : (s : State) → s.plan.ports < s.seat → (c : Call) → answer_of c s ≡ refusal 15
  -- 'or for seating while a mark stands'
  pub at_mark : (s : State) → 0 < s.seat → s.standing ≡ true → (c : Call) → answer_of c s ≡ refusal 15
  -- 'at the end'
  pub at_end : (s : State) → 0 < s.seat → s.ended ≡ true → (c : Call) → answer_of c s ≡ refusal 15
  -- 'or with the panel not at the mark's pattern'
  pub elsewhere : (s : State) → 0 < s.seat → (moment_of s).panel ≢ wanted (setting_of s) (moment_of s) → (c : Call) → answer_of c s ≡ refusal 15
  -- '17 also for a seat jack outside 1 to 20'
  pub outside : (j : Jack) → ¬ Among most_ports j.0 → (buf : List ℕ) → write_of most_ports (Seat j) buf ≡ refused 17 nowhere
  -- 'or above n on the panel'
  pub above_panel : (j : Jack) (p : List ℕ) → Panel most_ports p → ¬ Among (length p) j.0 → carry_of most_ports (Seat j) p ≡ refused 17 nowhere
