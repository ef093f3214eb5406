-- What a public call tells: that it was accepted, with what it gives, or the paper's number of the refusal and its place, which has the second number in it
-- (request 7, 'Say where the other one is').
-- Assumes nothing.
use Rattle.std.specs.Prelude.{ℕ, ◌≡◌, List}
use Rattle.std.proofs.Math.Option.{Option, none, some}

-- where a fault is: at no place that is said, at a jack of a pattern or panel, at a line of a plan (the paper, 'Refusal numbers'); and of a repeated port at
-- both jacks, the one at fault and the one of the earlier equal entry (request 7); of counts at the bench that they are of, counted from 0 (request 8)
pub data Spot : Type 0 where
  nowhere : Spot
  at_jack : ℕ → Spot
  at_jacks : ℕ → ℕ → Spot
  at_line : ℕ → Spot
  at_bench : ℕ → Spot

-- the number of a place: 0 where none is said
abbrev pub spot_number : Spot → ℕ
spot_number nowhere = 0
spot_number (at_jack j) = j
spot_number (at_jacks j i) = j
spot_number (at_line l) = l
spot_number (at_bench b) = b

-- the second number: 'the jack of the earlier equal entry'; 0 where there is none
abbrev pub earlier_number : Spot → ℕ
earlier_number nowhere = 0
earlier_number (at_jack j) = 0
earlier_number (at_jacks j i) = i
earlier_number (at_line l) = 0
earlier_number (at_bench b) = 0

-- what a call tells
pub data Told (A : Type 0) : Type 0 where
  accepted : A → Told A
  refused : ℕ → Spot → Told A

-- so is each refusal that is told
abbrev pub EachRefusal : {A : Type 0} → (ℕ → Spot → Type 0) → Told A → Type 0
EachRefusal Is t = (k : ℕ) (s : Spot) → t ≡ refused k s → Is k s

-- what is told without the second number: the number and the place that the paper lists
abbrev pub place_alone : Spot → Spot
place_alone nowhere = nowhere
place_alone (at_jack j) = at_jack j
place_alone (at_jacks j i) = at_jack j
place_alone (at_line l) = at_line l
place_alone (at_bench b) = at_bench b

abbrev pub told_alone : {A : Type 0} → Told A → Told A
told_alone (accepted a) = accepted a
told_alone (refused k s) = refused k (place_alone s)

-- a call that goes on with what an earlier one gives, and passes its refusal on whole
abbrev pub then : {A B : Type 0} → Told A → (A → Told B) → Told B
then (accepted a) f = f a
then (refused k s) f = refused k s

-- what has to be there; if it is not, refusal k at a place
abbrev pub need : {A : Type 0} → ℕ → Spot → Option A → Told A
need k s none = refused k s
need k s (some a) = accepted a

-- the bytes that a call leaves: its own if it was accepted, those that it found if it was refused
abbrev pub leaves : {A : Type 0} → Told A → List ℕ → List ℕ → List ℕ
leaves (accepted a) made found = made
leaves (refused k s) made found = found
