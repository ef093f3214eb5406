-- A state of the code as the model of `promise` has it: the campaign that it is a state of, and its moment.
-- Assumes nothing.
use Rattle.std.specs.Prelude.{ℕ, List, [], ◌++◌, length, take, drop}
use Rattle.std.proofs.Math.Option.{Option, none, some}
use Rattle.words.specs.Meaning.{jack_at, order_from}
use Rattle.words.specs.declared.Line.{Line}
use Rattle.words.specs.declared.Line.TheVariants.{Movement, Seat, Mark, End}
use Rattle.promise.specs.Campaign as model
use Rattle.promise.specs.Campaign.{movement, seat, mark, the_end, taken, refusal}
use Rattle.promise.specs.Derangements.{on_ports}
use Rattle.line_format.specs.Format.{line_text}
use Rattle.plan_rules.specs.Rules.{legs_of}
use Rattle.campaign_state.specs.declared.State.{State}

-- the line of an answer: a report that is taken and a refusal have none
abbrev pub answer_line : model.Answer → Option Line
answer_line (movement o) = some (Movement (order_from o))
answer_line (seat j) = some (Seat (jack_at j))
answer_line (mark k r) = some (Mark k r)
answer_line (the_end k) = some (End k)
answer_line taken = none
answer_line (refusal k) = none

-- its text; nothing where there is no line
abbrev pub text_of : Option Line → List ℕ
text_of none = []
text_of (some l) = line_text l

-- the text that an answer writes
abbrev pub answer_text : model.Answer → List ℕ
answer_text a = text_of (answer_line a)

-- how long it is
abbrev pub width : model.Answer → ℕ
width a = length (answer_text a)

-- the campaign on the ports of a plan with its legs
abbrev pub setting_of : State → model.Setting
setting_of s = on_ports s.plan.ports (legs_of s.plan) width

-- the moment of a state
abbrev pub moment_of : State → model.State
moment_of s = record {
  panel = take s.plan.ports s.panel;
  leg = s.leg;
  step = s.step;
  covered = s.covered;
  opened = s.opened;
  errors = s.errors;
  standing = s.standing;
  ended = s.ended;
  to_seat = s.seat;
}

-- a state at another moment: the plan stays, and so do the places of the panel beyond the ports
abbrev pub at_moment : model.State → State → State
at_moment m s = record {
  plan = s.plan;
  panel = m.panel ++ drop s.plan.ports s.panel;
  leg = m.leg;
  step = m.step;
  covered = m.covered;
  opened = m.opened;
  errors = m.errors;
  standing = m.standing;
  ended = m.ended;
  seat = m.to_seat;
}
