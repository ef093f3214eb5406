-- Refusal 15 in full (the paper, 'Refusal numbers'): the sentence `Fit`, which reads as the paper's list, and the test `fit` (proofs/Fitness has that it tells
-- the sentence). What speaks of the moment is said once for every family, in `promise`.
-- Assumes nothing.
use Rattle.std.specs.Prelude.{ℕ, zero, suc, ◌+◌, ◌≤◌, ◌<◌, ◌≡◌, Bool, true, not, ◌&&◌, List, [], ◌∷◌, eqb, leb, ltb, length}
use Rattle.promise.specs.Tests.{implies}
use Rattle.promise.specs.Campaign as model
use Rattle.promise.specs.Campaign.{here, closed_marks}
use Rattle.promise.specs.Fitness as promise
use Rattle.plan_rules.specs.Planned.{device}
use Rattle.plan_rules.specs.Rules.{leg_is, legs_of, Beyond, Ruled, plan_ruled}
use Rattle.words.specs.declared.Leg.{Leg}
use Rattle.campaign_state.specs.State.{setting_of, moment_of}
use Rattle.campaign_state.specs.declared.State.{State}

-- a state is fit: none of the reasons of row 15 holds
pub record Fit (s : State) : Type 0 where
  -- 'ports, legs, start or run outside the rules', and 'unused places are those beyond the legs'
  pub plan : Ruled device s.plan
  -- 'and, on the panel, beyond the ports'
  pub unused : Beyond s.plan.ports 0 s.panel
  -- 'leg not below legs, step above |run|, panel no permutation or not as said below, end shown falsely, covered plus open unequal to the number of the
  -- standing or next mark, or errors above 65,535'; and of request 4 'a seat number above n', or seating where it may not be
  pub moment : promise.Fit (setting_of s) (moment_of s)

-- ---- the test

-- whether the places of l from place k on hold 0
unfoldable pub empty_from : ℕ → List ℕ → Bool
empty_from k [] = true
empty_from zero (x ∷ l) = eqb x 0 && empty_from zero l
empty_from (suc k) (x ∷ l) = empty_from k l

-- whether plan and unused places are within the rules
unfoldable pub places_fit : State → Bool
places_fit s = plan_ruled device s.plan && empty_from s.plan.ports s.panel

unfoldable pub fit : State → Bool
fit s = places_fit s && model.fit (setting_of s) (moment_of s)

-- ---- its parts, as the code tries them

-- a state within the rules, at a leg and a step of its plan
pub record InPlan (s : State) : Type 0 where
  pub places : places_fit s ≡ true
  pub leg : s.leg < length (legs_of s.plan)
  pub step : s.step ≤ (here (setting_of s) (moment_of s)).run

-- l is that leg
abbrev pub IsLeg : State → Leg → Type 0
IsLeg s l = leg_is l ≡ here (setting_of s) (moment_of s)

-- 'covered plus open' is 'the number of the standing or next mark (after the end, the plan's marks)'
abbrev pub counts_right : State → Bool
counts_right s = eqb (s.covered + s.opened) (closed_marks (setting_of s) (moment_of s))

-- 'The end is shown falsely if a mark stands or the leg and step are not the last'
abbrev pub end_right : State → Bool
end_right s =
    implies s.ended (not s.standing && eqb (suc s.leg) (length (legs_of s.plan)) && eqb s.step (here (setting_of s) (moment_of s)).run)

-- 'a seat number above n, or .. seating while a mark stands, at the end' (request 4)
abbrev pub seat_right : State → Bool
seat_right s = leb s.seat s.plan.ports && implies (ltb 0 s.seat) (not s.standing && not s.ended)
