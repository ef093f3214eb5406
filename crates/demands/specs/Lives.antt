-- The life of a bench with power cuts, for the code: calls are made, and in some the power fails; then the campaign is taken up by the call `resume`, with the
-- state that was saved and the panel that was read back.
-- Assumes nothing.
use Rattle.std.specs.Prelude.{ℕ, ◌≡◌, ◌⊎◌, List, [], ◌∷◌}
use Rattle.campaign_state.specs.State.{moment_of}
use Rattle.campaign_state.specs.declared.State.{State}
use Rattle.promise_onward.specs.Lives.{OfRow}
use Rattle.campaign.specs.Calls.{answer_of, left_of}
use Rattle.campaign_onward.specs.Calls.{resumed_of}
use Rattle.campaign_reached.specs.Turns.{Called, call_of}

-- a call is made; or the power fails in it, the state x was saved, and the panel q is read back
pub data Event : Type 0 where
  made : Called → Event
  cut : Called → State → List ℕ → Event

-- what a cut in a call may leave: the state before it or the one after it is saved, and the panel is that of the one or the other. (Of a call that gave a seat
-- the state after it is saved only when the seat is done: `promise_onward.Unread.saved-early` has why.)
abbrev pub MayLeave : Called → State → State → List ℕ → Type 0
MayLeave c s x q =
    ((x ≡ s) ⊎ (x ≡ left_of (call_of c) s)) × ((q ≡ (moment_of s).panel) ⊎ (q ≡ (moment_of (left_of (call_of c) s)).panel))

-- so at each cut, from state s on
unfoldable pub Possible : List Event → State → Type 0
Possible [] s = Unit {0}
Possible (made c ∷ es) s = Possible es (left_of (call_of c) s)
Possible (cut c x q ∷ es) s = MayLeave c s x q × Possible es (resumed_of x q)

-- the state with which the bench comes out
unfoldable pub through : List Event → State → State
through [] s = s
through (made c ∷ es) s = through es (left_of (call_of c) s)
through (cut c x q ∷ es) s = through es (resumed_of x q)

-- the power fails in one of the events
unfoldable pub HasCut : List Event → Type 0
HasCut [] = ⊥
HasCut (made c ∷ es) = HasCut es
HasCut (cut c x q ∷ es) = Unit {0}

-- the calls that are kept, from state s on: each that is made, and of those in which the power fails some; the seats of a row that a later cut broke are lost
-- with it, since the row begins anew
pub data KeptOf : State → List Event → List Called → Type 0 where
  none : {s : State} → KeptOf s [] []
  made_kept : {s : State} {es : List Event} {cs : List Called} (c : Called) → KeptOf (left_of (call_of c) s) es cs → KeptOf s (made c ∷ es) (c ∷ cs)
  row-broken : {s : State} {es : List Event} {cs : List Called} (c : Called) → OfRow (answer_of (call_of c) s) → HasCut es → KeptOf (left_of (call_of c) s) es cs
      → KeptOf s (made c ∷ es) cs
  cut-kept : {s : State} {es : List Event} {cs : List Called} (c : Called) (x : State) (q : List ℕ) → KeptOf (resumed_of x q) es cs
      → KeptOf s (cut c x q ∷ es) (c ∷ cs)
  cut-lost : {s : State} {es : List Event} {cs : List Called} (c : Called) (x : State) (q : List ℕ) → KeptOf (resumed_of x q) es cs
      → KeptOf s (cut c x q ∷ es) cs
