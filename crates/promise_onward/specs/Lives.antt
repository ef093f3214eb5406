-- The life of a bench with power cuts, in which some calls are lost.
-- Assumes nothing.
use Rattle.std.specs.Prelude.{ℕ, ◌≡◌, List, [], ◌∷◌}
use Rattle.promise.specs.Campaign.{State, Call, Answer, movement, seat, mark, the_end, taken, refusal, Setting, answer}
use Rattle.promise.specs.Bench.{Act, meets, in_front, run, leaves, acts, bench, Meets}
use Rattle.promise.specs.Onward.{Past, Onward}
use Rattle.promise.specs.Seats.{Reseats, seat_due}
use Rattle.promise_onward.specs.Resume.{resumed}
use Rattle.promise_onward.specs.Cuts.{left, Cut}

-- ---- what a bench goes through

-- a call is made; or it is made and the power fails in it, and the campaign is taken up with the saved state and the panel read back
pub data Event : Type 0 where
  made : Call → Event
  cut : Call → State → List ℕ → Event

-- from state s on, each cut leaves what a cut in its call may leave
unfoldable pub Possible : Setting → List Event → State → Type 0
Possible C [] s = Unit {0}
Possible C (made c ∷ es) s = Possible C es (left C c s)
Possible C (cut c x q ∷ es) s = Cut C c s x q × Possible C es (resumed q x)

-- the state with which the bench comes out
unfoldable pub through : Setting → List Event → State → State
through C [] s = s
through C (made c ∷ es) s = through C es (left C c s)
through C (cut c x q ∷ es) s = through C es (resumed q x)

-- ---- the same as calls kept and lost

-- a call whose state is kept; or a call that is lost: the campaign is taken up as it was before it
pub data Moment : Type 0 where
  kept : Call → Moment
  lost : Call → Moment

-- an answer that a row of seats has: a seat, or a refusal beside it
abbrev pub OfRow : Answer → Type 0
OfRow (movement o) = ⊥
OfRow (seat j) = Unit {0}
OfRow (mark k r) = ⊥
OfRow (the_end k) = ⊥
OfRow taken = ⊥
OfRow (refusal k) = Unit {0}

-- the power fails in one of the events
unfoldable pub HasCut : List Event → Type 0
HasCut [] = ⊥
HasCut (made c ∷ es) = HasCut es
HasCut (cut c x q ∷ es) = Unit {0}

-- the moments are those of the events from state s on: a call that is made is kept, and one in which the power fails is kept or lost; the seats of a row that
-- a later cut broke are lost with it, since the row begins anew
pub data AreMoments (C : Setting) : State → List Event → List Moment → Type 0 where
  none : {s : State} → AreMoments C s [] []
  made_kept : {s : State} {es : List Event} {ms : List Moment} (c : Call) → AreMoments C (left C c s) es ms → AreMoments C s (made c ∷ es) (kept c ∷ ms)
  row-broken : {s : State} {es : List Event} {ms : List Moment} (c : Call) → OfRow (answer C c s) → HasCut es → AreMoments C (left C c s) es ms
      → AreMoments C s (made c ∷ es) (lost c ∷ ms)
  cut-kept : {s : State} {es : List Event} {ms : List Moment} (c : Call) (x : State) (q : List ℕ) → AreMoments C (resumed q x) es ms
      → AreMoments C s (cut c x q ∷ es) (kept c ∷ ms)
  cut-lost : {s : State} {es : List Event} {ms : List Moment} (c : Call) (x : State) (q : List ℕ) → AreMoments C (resumed q x) es ms
      → AreMoments C s (cut c x q ∷ es) (lost c ∷ ms)

-- the calls that are kept
unfoldable pub kept_calls : List Moment → List Call
kept_calls [] = []
kept_calls (kept c ∷ ms) = c ∷ kept_calls ms
kept_calls (lost c ∷ ms) = kept_calls ms

-- what a lost answer was on the bench, in front of others: a lost mark was met, and its traffic may have run; a lost order was not carried out, for else the
-- panel tells of it and the call is kept; a lost seat counts for nothing, done or not, since its row begins anew; a lost report was not heard
abbrev pub lost_in_front : Answer → List Act → List Act
lost_in_front (movement o) xs = xs
lost_in_front (seat j) xs = xs
lost_in_front (mark k r) xs = meets k r ∷ xs
lost_in_front (the_end k) xs = xs
lost_in_front taken xs = xs
lost_in_front (refusal k) xs = xs

-- all that happened on the bench from state s on, lost marks too
unfoldable pub happened : Setting → List Moment → State → List Act
happened C [] s = []
happened C (kept c ∷ ms) s = in_front c (answer C c s) (happened C ms (left C c s))
happened C (lost c ∷ ms) s = lost_in_front (answer C c s) (happened C ms s)

-- if anything comes next, it is the mark k, r
abbrev pub NextIs : ℕ → ℕ → List Act → Type 0
NextIs k r [] = Unit {0}
NextIs k r (x ∷ xs) = x ≡ meets k r

-- each mark that was lost comes again, and nothing happens on the bench before it does
unfoldable pub LostAgain : Setting → List Moment → State → Type 0
LostAgain C [] s = Unit {0}
LostAgain C (kept c ∷ ms) s = LostAgain C ms (left C c s)
LostAgain C (lost c ∷ ms) s = ((k r : ℕ) → answer C c s ≡ mark k r → NextIs k r (happened C ms s)) × LostAgain C ms s

-- ---- what holds of a life

-- from the fit state s on, with its past b, on a bench whose panel is p, however many calls are lost:
pub record Lived (C : Setting) (p : List ℕ) (s : State) (b : Past) (ms : List Moment) : Type 0 where
  -- the calls that are kept are a campaign with no cut, and demand three holds of it: what is counted is counted once, on what is kept
  pub as_uncut : Onward C p s b (run C (kept_calls ms) s) (acts (run C (kept_calls ms) s)) (leaves s (run C (kept_calls ms) s))
  -- after an error exactly the seats 1 to n come in turn and then the same mark, however often the power fails
  pub reseats : Reseats C.family.ports b.mark (seat_due C s b) (acts (run C (kept_calls ms) s))
  -- every mark meets the pattern of its rank, the lost ones too
  pub every_mark_meets : Meets C.family p (happened C ms s)
  -- a lost mark is met again, and no order comes between
  pub lost_come_again : LostAgain C ms s
  -- the panel of the bench is the state's
  pub panel_is_carried : bench p (happened C ms s) ≡ (leaves s (run C (kept_calls ms) s)).panel

-- whatever a bench goes through is such a life, and it comes out with the state that the kept calls leave
pub record LivedThrough (C : Setting) (p : List ℕ) (s : State) (b : Past) (es : List Event) : Type 0 where
  pub moments : List Moment
  pub those : AreMoments C s es moments
  pub comes_out : through C es s ≡ leaves s (run C (kept_calls moments) s)
  pub lived : Lived C p s b moments
