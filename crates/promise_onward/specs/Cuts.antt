-- Power cuts: what one leaves behind.
-- Assumes nothing.
use Rattle.std.specs.Prelude.{ℕ, ◌≡◌, ◌⊎◌, List, [], ◌∷◌}
use Rattle.promise.specs.Campaign.{State, with_panel, Call, Setting, answer, after}
use Rattle.promise.specs.Bench.{Act, moves, seats, meets, says, in_front, turns, acts}
use Rattle.promise.specs.Onward.{Past, first_past, and_all}

-- the state that the call c leaves on s
abbrev pub left : Setting → Call → State → State
left C c s = after C c (answer C c s) s

-- what happened in the calls cs from the first state on
abbrev pub past_after : Setting → List Call → Past
past_after C cs = and_all (first_past C) C.family.home (acts (turns C cs))

-- what went before the state that c leaves, where b went before s
abbrev pub past_left : Setting → Past → Call → State → Past
past_left C b c s = and_all b s.panel (in_front c (answer C c s) [])

-- but for the panel x is s: it is s itself, or orders that came since were not saved
abbrev pub SavedFor : State → State → Type 0
SavedFor s x = with_panel s.panel x ≡ s

-- the power failed in the call c on s: the state x is saved for the one before the call or for the one after it, and the panel q that is read back is that of
-- one of the two. (Of a call that gave a seat the state after it is saved only when the seat is done: proofs/Cuts.antt has why.)
pub record Cut (C : Setting) (c : Call) (s : State) (x : State) (q : List ℕ) : Type 0 where
  pub saved : SavedFor s x ⊎ SavedFor (left C c s) x
  pub read : (q ≡ s.panel) ⊎ (q ≡ (left C c s).panel)

-- nothing happened on the bench but movements
unfoldable pub OnlyOrders : List Act → Type 0
OnlyOrders [] = Unit {0}
OnlyOrders (moves o ∷ xs) = OnlyOrders xs
OnlyOrders (seats j ∷ xs) = ⊥
OnlyOrders (meets k r ∷ xs) = ⊥
OnlyOrders (says w ∷ xs) = ⊥
