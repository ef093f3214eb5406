-- The calls that a bench makes, and what the contracts of `campaign` say that they answer and leave: turns, as the third demand speaks of them.
-- Assumes nothing.
use Rattle.std.specs.Prelude.{ℕ, List, [], ◌∷◌, ◌≡◌, length}
use Rattle.std.proofs.Math.Option.{Option}
use Rattle.words.specs.Told.{accepted}
use Rattle.promise.specs.Campaign.{Setting, Call, request, report_to}
use Rattle.promise.specs.Bench.{Turn}
use Rattle.promise.specs.Derangements.{on_ports}
use Rattle.plans.specs.Calls.{read_plan_of}
use Rattle.campaign_state.specs.State.{width, moment_of}
use Rattle.campaign_state.specs.declared.State.{State}
use Rattle.campaign.specs.Calls.{answer_of, left_of, begun_of}
use Rattle.plan_rules.specs.Planned.{Planned}

-- 'any accepted plan': a text, and the plan that it was accepted as
pub record AcceptedPlan : Type 0 where
  pub text : List ℕ
  pub plan : Planned
  pub accepts : read_plan_of text ≡ accepted plan

-- its campaign: on its ports, with its legs
abbrev pub campaign_of : AcceptedPlan → Setting
campaign_of P = on_ports P.plan.ports P.plan.legs width

-- the state that its text leaves
abbrev pub begun : AcceptedPlan → State
begun P = begun_of P.text

-- a call of the bench: a request with the bytes of the lent buffer; or a report with the number of the mark that it names, if it names one, and its kind
pub data Called : Type 0 where
  asks : List ℕ → Called
  tells : Option ℕ → ℕ → Called

-- the same as the model has it: of the buffer only its room counts
abbrev pub call_of : Called → Call
call_of (asks buf) = request (length buf)
call_of (tells o kind) = report_to o kind

-- 'any calls, each on the state the last one left': the turns that the contracts determine, from state s on
unfoldable pub turns_of : List Called → State → List Turn
turns_of [] s = []
turns_of (c ∷ cs) s =
    record { call = call_of c; answered = answer_of (call_of c) s; left = moment_of (left_of (call_of c) s) } ∷ turns_of cs (left_of (call_of c) s)

-- the state that they leave
unfoldable pub left_after : List Called → State → State
left_after [] s = s
left_after (c ∷ cs) s = left_after cs (left_of (call_of c) s)
