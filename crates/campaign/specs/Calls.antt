-- What each call tells, which state it leaves and which bytes, for accepted and refused calls alike (the paper, 'The campaign'). The model of `promise`
-- decides, on states whose plan and unused places are within the rules; any other state is refused with 15.
-- Assumes nothing.
use Rattle.std.specs.Prelude.{ℕ, false, cond, List, ltb, length}
use Rattle.listing.specs.Ends.{home}
use Rattle.listing.specs.Limits.{most_ports, most_legs}
use Rattle.words.specs.Meaning.{order_of}
use Rattle.words.specs.declared.Line.{Line}
use Rattle.words.specs.declared.Line.TheVariants.{Movement, Seat, Mark, End}
use Rattle.words.specs.Told.{Told, accepted, refused, nowhere}
use Rattle.words.specs.Padded.{padded}
use Rattle.line_format.specs.Calls.{over}
use Rattle.plan_rules.specs.Places.{held_of}
use Rattle.plans.specs.Calls.{read_plan_of}
use Rattle.plan_rules.specs.declared.Plan.{Plan}
use Rattle.promise.specs.Campaign as model
use Rattle.promise.specs.Campaign.{Call, request, movement, seat, mark, the_end, taken, refusal}
use Rattle.campaign_state.specs.State.{answer_text, width, setting_of, moment_of, at_moment}
use Rattle.campaign_state.specs.Fitness.{places_fit}
use Rattle.campaign_state.specs.declared.State.{State}

-- the answer to a call
unfoldable pub answer_of : Call → State → model.Answer
answer_of c s = cond (places_fit s) (model.answer (setting_of s) c (moment_of s)) (refusal 15)

-- what it tells: a refusal is at no place
abbrev pub told_of : model.Answer → Told model.Answer
told_of (movement o) = accepted (movement o)
told_of (seat j) = accepted (seat j)
told_of (mark k r) = accepted (mark k r)
told_of (the_end k) = accepted (the_end k)
told_of taken = accepted taken
told_of (refusal k) = refused k nowhere

-- the state after an answer to a call
abbrev pub after : Call → model.Answer → State → State
after c a s = at_moment (model.after (setting_of s) c a (moment_of s)) s

-- the state that is left
unfoldable pub left_of : Call → State → State
left_of c s = after c (answer_of c s) s

-- the bytes that are left: 'a request also writes the order's line at the front of a lent buffer'; on a refusal all keep their values
unfoldable pub bytes_of : State → List ℕ → List ℕ
bytes_of s buf = over (answer_text (answer_of (request (length buf)) s)) buf

-- ---- a line handed out

-- the answer that a line is
abbrev pub line_is : Line → model.Answer
line_is (Movement o) = movement (order_of o)
line_is (Seat j) = seat j.0
line_is (Mark k r) = mark k r
line_is (End k) = the_end k

-- 'the line to be written does not fit the lent buffer' (2)
unfoldable pub roomed : ℕ → model.Answer → model.Answer
roomed room a = cond (ltb room (width a)) (refusal 2) a

-- ---- the beginning

-- 'the first state: panel at home, leg, step and counts 0, no mark standing, end not shown'; no jack to seat, unused places 0
abbrev pub first_state : Plan → State
first_state p = record {
  plan = p;
  panel = padded most_ports 0 (home p.ports);
  leg = 0;
  step = 0;
  covered = 0;
  opened = 0;
  errors = 0;
  standing = false;
  ended = false;
  seat = 0;
}

-- the state that a text leaves: the first state of its plan; all zeros if it is refused
abbrev pub begun_of : List ℕ → State
begun_of t = first_state (held_of most_legs (read_plan_of t))
