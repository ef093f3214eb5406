-- Two words that mean the same are the same word. Each meaning can be read back, so it is met by one word only.
-- Assumes nothing.
use mathlib.Core.Path.{◌≡◌, refl, sym, ap, ◌∙◌}
use mathlib.Core.List.{[], ◌∷◌}
use Prim.Native.Nat.{ℕ}
use lib.ListN.{get_or}
use Rattle.listing.specs.Orders.{swap, turn, nothing, one, two}
use Rattle.listing.specs.Orders as list
use Rattle.words.specs.Told.{Spot, nowhere, at_jack, at_jacks, at_line, at_bench}
use Rattle.words.specs.Meaning.{jack_at, order_of, order_from, move_of, number_of, spot_of, refusal_of, answer_told, outcome_told, numbered_told}
use Rattle.words.specs.Maybe.{option_is}
use Rattle.words.specs.declared.Order.{Order}
use Rattle.words.specs.declared.Order.TheVariants.{Swap, Turn}
use Rattle.words.specs.declared.Move.{Move}
use Rattle.words.specs.declared.Move.TheVariants.{Nothing, One, Two}
use Rattle.words.specs.declared.Reason.{Reason}
use Rattle.words.specs.declared.Reason.TheVariants.{Ports, Room, Outside, Repeated, OwnJack, Rank, Key, Number, Legs, Run, Ended, NoMark, MarkStands, Kind, Unfit, Errors, Shape}
use Rattle.words.specs.declared.Place.{Place}
use Rattle.words.specs.declared.Place.TheVariants.{Nowhere, AtJack, AtJacks, AtLine}
use Rattle.words.specs.declared.Refusal.{Refusal}
use Rattle.std.specs.declared.result.Result.{Result}
use Rattle.std.specs.declared.result.Result.TheVariants.{Ok, Err}
use Rattle.std.specs.declared.option.Option.{Option as Maybe}
use Rattle.std.specs.declared.option.Option.TheVariants.{Some, None}

-- ---- reading a meaning back

abbrev move : list.Move → Move
move nothing = Nothing
move (one o) = One (order_from o)
move (two a b c d) = Two (jack_at a) (jack_at b) (jack_at c) (jack_at d)

abbrev reason : ℕ → Reason
reason k =
    get_or
    (Shape ∷ Ports ∷ Room ∷ Outside ∷ Repeated ∷ OwnJack ∷ Rank ∷ Key ∷ Number ∷ Legs ∷ Run ∷ Ended ∷ NoMark ∷ MarkStands ∷ Kind ∷ Unfit ∷ Errors ∷ []) k Shape

-- (no refusal of ours is at a bench)
abbrev place : Spot → Place
place nowhere = Nowhere
place (at_jack j) = AtJack (jack_at j)
place (at_jacks j i) = AtJacks (jack_at j) (jack_at i)
place (at_line l) = AtLine l
place (at_bench b) = Nowhere

-- the order that its numbers say
pub order-back : (o : Order) → order_from (order_of o) ≡ o
order-back (Swap a b) = refl
order-back (Turn a b c) = refl

-- and its numbers back
pub order-there : (o : list.Order) → order_of (order_from o) ≡ o
order-there (swap a b) = refl
order-there (turn a b c) = refl

move-back : (v : Move) → move (move_of v) ≡ v
move-back Nothing = refl
move-back (One o) = ap One (order-back o)
move-back (Two a b c d) = refl

reason-back : (r : Reason) → reason (number_of r) ≡ r
reason-back Ports = refl
reason-back Room = refl
reason-back Outside = refl
reason-back Repeated = refl
reason-back OwnJack = refl
reason-back Rank = refl
reason-back Key = refl
reason-back Number = refl
reason-back Legs = refl
reason-back Run = refl
reason-back Ended = refl
reason-back NoMark = refl
reason-back MarkStands = refl
reason-back Kind = refl
reason-back Unfit = refl
reason-back Errors = refl
reason-back Shape = refl

place-back : (p : Place) → place (spot_of p) ≡ p
place-back Nowhere = refl
place-back (AtJack j) = refl
place-back (AtJacks j i) = refl
place-back (AtLine l) = refl

-- ---- so each is met once

pub order-once : (o p : Order) → order_of o ≡ order_of p → o ≡ p
order-once o p e = sym (order-back o) ∙ ap order_from e ∙ order-back p

pub move-once : (v w : Move) → move_of v ≡ move_of w → v ≡ w
move-once v w e = sym (move-back v) ∙ ap move e ∙ move-back w

pub refusal-once : {A : Type 0} (r s : Refusal) → refusal_of {A = A} r ≡ refusal_of s → r ≡ s
refusal-once r s e =
    let number : number_of r.reason ≡ number_of s.reason = cc in
    let spot : spot_of r.place ≡ spot_of s.place = cc in
    let why : r.reason ≡ s.reason = sym (reason-back r.reason) ∙ ap reason number ∙ reason-back s.reason in
    let where-at : r.place ≡ s.place = sym (place-back r.place) ∙ ap place spot ∙ place-back s.place in
    λ i. record { reason = why i; place = where-at i }

-- an answer, where what it gives is told once
pub answer-once : {A B : Type 0} (f : A → B) → ((a b : A) → f a ≡ f b → a ≡ b) → (r s : Result A Refusal) → answer_told f r ≡ answer_told f s → r ≡ s
answer-once f h (Ok a) (Ok b) e = ap Ok (h a b (cc))
answer-once f h (Ok a) (Err g) e = cc
answer-once f h (Err g) (Ok b) e = cc
answer-once f h (Err g) (Err k) e = ap Err (refusal-once g k e)

pub outcome-once : (r s : Result (Unit {0}) Refusal) → outcome_told r ≡ outcome_told s → r ≡ s
outcome-once = answer-once (λ u. u) (λ a b e. e)

pub numbered-once : (r s : Result ℕ Refusal) → numbered_told r ≡ numbered_told s → r ≡ s
numbered-once = answer-once (λ k. k) (λ a b e. e)

-- and one that may be none
pub option-once : {A : Type 0} (r s : Maybe A) → option_is r ≡ option_is s → r ≡ s
option-once (Some a) (Some b) e = cc
option-once (Some a) None e = cc
option-once None (Some b) e = cc
option-once None None e = refl
