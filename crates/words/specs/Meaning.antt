-- What the words of the bench mean in numbers: orders and moves as `listing` has them, reasons by the paper's numbers.
-- Assumes nothing.
use Rattle.std.specs.Prelude.{ℕ}
use Rattle.listing.specs.Orders.{swap, turn, nothing, one, two}
use Rattle.listing.specs.Orders as list
use Rattle.words.specs.Told.{Spot, nowhere, at_jack, at_jacks, at_line, Told, accepted, refused}
use Rattle.words.specs.declared.Jack.{Jack}
use Rattle.words.specs.declared.Order.{Order}
use Rattle.words.specs.declared.Order.TheVariants.{Swap, Turn}
use Rattle.words.specs.declared.Move.{Move}
use Rattle.words.specs.declared.Move.TheVariants.{Nothing, One, Two}
use Rattle.words.specs.declared.Reason.{Reason}
use Rattle.words.specs.declared.Reason.TheVariants.{Ports, Room, Outside, Repeated, OwnJack, Rank, Key, Number, Legs, Run, Ended, NoMark, MarkStands, Kind, Unfit, Errors, Shape}
use Rattle.words.specs.declared.Place.{Place}
use Rattle.words.specs.declared.Place.TheVariants.{Nowhere, AtJack, AtJacks, AtLine}
use Rattle.words.specs.declared.Refusal.{Refusal}
use Rattle.std.specs.declared.result.Result.{Result}
use Rattle.std.specs.declared.result.Result.TheVariants.{Ok, Err}

-- an order, by its jacks
abbrev pub order_of : Order → list.Order
order_of (Swap a b) = swap a.0 b.0
order_of (Turn a b c) = turn a.0 b.0 c.0

-- a jack, and the order, of these numbers
abbrev pub jack_at : ℕ → Jack
jack_at j = record { 0 = j }

abbrev pub order_from : list.Order → Order
order_from (swap a b) = Swap (jack_at a) (jack_at b)
order_from (turn a b c) = Turn (jack_at a) (jack_at b) (jack_at c)

-- a move, by its orders
abbrev pub move_of : Move → list.Move
move_of Nothing = nothing
move_of (One o) = one (order_of o)
move_of (Two a b c d) = two a.0 b.0 c.0 d.0

-- the paper's number of a refusal ('Refusal numbers')
abbrev pub number_of : Reason → ℕ
number_of Ports = 1
number_of Room = 2
number_of Outside = 3
number_of Repeated = 4
number_of OwnJack = 5
number_of Rank = 6
number_of Key = 7
number_of Number = 8
number_of Legs = 9
number_of Run = 10
number_of Ended = 11
number_of NoMark = 12
number_of MarkStands = 13
number_of Kind = 14
number_of Unfit = 15
number_of Errors = 16
number_of Shape = 17

-- the place of a refusal
abbrev pub spot_of : Place → Spot
spot_of Nowhere = nowhere
spot_of (AtJack j) = at_jack j.0
spot_of (AtJacks j i) = at_jacks j.0 i.0
spot_of (AtLine l) = at_line l

-- what a refusal tells: its number and its place
abbrev pub refusal_of : {A : Type 0} → Refusal → Told A
refusal_of r = refused (number_of r.reason) (spot_of r.place)

-- what an answer tells: f of the value that it gives, or the refusal
abbrev pub answer_told : {A B : Type 0} → (A → B) → Result A Refusal → Told B
answer_told f (Ok a) = accepted (f a)
answer_told f (Err r) = refusal_of r

-- an answer without values, and one with a number
abbrev pub outcome_told : Result (Unit {0}) Refusal → Told (Unit {0})
outcome_told r = answer_told (λ u. u) r

abbrev pub numbered_told : Result ℕ Refusal → Told ℕ
numbered_told r = answer_told (λ k. k) r
