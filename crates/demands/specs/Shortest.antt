-- Request 14, 'Is the carriage as short as it can be?', as one record: of the carriage, and of what any calls on any accepted plan are given.
-- Assumes nothing.
use Rattle.std.specs.Prelude.{ℕ, ◌*◌, ◌≤◌, ◌<◌, ◌≡◌, true, false, List, [], ◌∷◌, ◌++◌, length}
use Rattle.listing.specs.Ends.{home}
use Rattle.listing.specs.Pattern.{Permutation}
use Rattle.listing.specs.Orders.{Order, swap, turn, carry}
use Rattle.promise.specs.Carriage.{carriage}
use Rattle.promise.specs.Bench.{Act, acts}
use Rattle.promise.specs.Shortest.{Way, Shortest, in_swaps, CarriedShortest}
use Rattle.promise.specs.Onward.{past_of}
use Rattle.campaign_state.specs.State.{setting_of, moment_of}
use Rattle.campaign_state.specs.Fitness.{fit}
use Rattle.campaign_state.specs.declared.State.{State}
use Rattle.campaign_state.proofs.Places.{Sized}
use Rattle.campaign_reached.specs.Turns.{AcceptedPlan, begun, Called, turns_of}
use Rattle.face_state.specs.States.{state_count}
use Rattle.face_laws.specs.Calls.{begin_words}
use Rattle.demands.specs.Robot.{robot_acts}
use Rattle.demands.specs.Words.{robot_in}

-- of what happens on a bench with the panel at home: whatever leads to a leg's first mark is a shortest way by swaps
abbrev pub Carried : AcceptedPlan → List Act → Type 0
Carried P xs = let n = P.plan.ports in CarriedShortest n P.plan.legs false [] (home n) (home n) xs

pub record ShortestCarriage : Type 0 where
  -- ---- 'Show whether one exists': no cleverer way by swaps does, for every number of ports
  -- 'from any permutation to any other of the same length, no sequence of swaps that reaches the target is shorter'
  pub none_shorter : (n : ℕ) (p t : List ℕ) → Permutation n p → Permutation n t → Shortest n p t (carriage p t)
  -- 'than the one the campaign gives': on any accepted plan and with any calls, what is handed out between the mark before and a leg's first mark is such a way
  pub given : (P : AcceptedPlan) (cs : List Called) → Carried P (acts (turns_of cs (begun P)))
  -- the same of what a robot reads from the bytes alone, and of the calls for C
  pub bytes : (P : AcceptedPlan) (cs : List Called) → Carried P (robot_acts cs (begun P))
  pub words : (P : AcceptedPlan) (ws : List ℕ) → length ws ≡ state_count → (cs : List Called) → Carried P (robot_in cs (begin_words P.text ws))
  -- and from any fit state on, so after a power cut too: from the panel that stands
  pub onward : (s : State) → Sized s → fit s ≡ true → (cs : List Called) → let C = setting_of s in let b = past_of C (moment_of s) in
      CarriedShortest C.family.ports C.legs b.again b.since b.last (moment_of s).panel (acts (turns_of cs s))
  -- 'Sequences that pass through self-joins count too': a way may pass any panel q
  pub any_panel : (n : ℕ) (p q t : List ℕ) (os vs : List Order) → Way n p q os → Way n q t vs → Way n p t (os ++ vs)
  -- ---- what the robot people will ask next: turns
  -- counted as two swaps each they never win
  pub in_swaps_none : (n : ℕ) (p t : List ℕ) → Permutation n p → Permutation n t → (os : List Order) → Way n p t os → length (carriage p t) ≤ in_swaps os
  -- in orders they do: from rank 0 of 3 ports to rank 1, by the way of a self-join, where one turn leads there
  pub in_orders : (carriage (2 ∷ 3 ∷ 1 ∷ []) (3 ∷ 1 ∷ 2 ∷ []) ≡ swap 1 2 ∷ swap 2 3 ∷ []) × Way 3 (2 ∷ 3 ∷ 1 ∷ []) (3 ∷ 1 ∷ 2 ∷ []) (turn 1 2 3 ∷ [])
  pub self_join : carry (swap 1 2) (2 ∷ 3 ∷ 1 ∷ []) ≡ 3 ∷ 2 ∷ 1 ∷ []
  -- no example is smaller, in ports or in swaps
  pub smallest : (n : ℕ) (p t : List ℕ) → Permutation n p → Permutation n t → (os : List Order) → Way n p t os → length os < length (carriage p t)
      → (3 ≤ n) × (2 ≤ length (carriage p t))
  -- and at best half as many orders lead there
  pub half_at_best : (n : ℕ) (p t : List ℕ) → Permutation n p → Permutation n t → (os : List Order) → Way n p t os → length (carriage p t) ≤ 2 * length os
