-- The state of a campaign in words, each field at its place, and the state that words are ('The state of a campaign', include/jidrofex.h).
-- Assumes nothing.
use Rattle.std.specs.Prelude.{ℕ, ◌+◌, ◌-◌, Bool, true, false, cond, ◌&&◌, List, [], ◌∷◌, ◌++◌, map, eqb, leb, ltb, ℤ, pos, negsuc, get_or, take, drop, replicate}
use Rattle.std.proofs.Math.Option.{Option, none, some}
use Rattle.listing.specs.Limits.{most_ports, most_legs, largest64}
use Rattle.words.specs.Signs.{signed_limit}
use Rattle.campaign_state.specs.declared.State.{State}
use Rattle.face_values.specs.Lines.{largest8}

-- ---- the places: JIDROFEX_STATE_PORTS, JIDROFEX_STATE_LEGS, .. JIDROFEX_STATE_ENDED, and of request 4 JIDROFEX_STATE_SEAT

abbrev pub ports_place : ℕ
ports_place = 0

abbrev pub legs_place : ℕ
legs_place = 1

abbrev pub starts_place : ℕ
starts_place = 2

abbrev pub runs_place : ℕ
runs_place = starts_place + most_legs

abbrev pub panel_place : ℕ
panel_place = runs_place + most_legs

abbrev pub leg_place : ℕ
leg_place = panel_place + most_ports

abbrev pub step_place : ℕ
step_place = leg_place + 1

abbrev pub covered_place : ℕ
covered_place = leg_place + 2

abbrev pub open_place : ℕ
open_place = leg_place + 3

abbrev pub errors_place : ℕ
errors_place = leg_place + 4

abbrev pub standing_place : ℕ
standing_place = leg_place + 5

abbrev pub ended_place : ℕ
ended_place = leg_place + 6

abbrev pub seat_place : ℕ
seat_place = leg_place + 7

-- the words from the leg on, and JIDROFEX_STATE_WORDS
abbrev pub last_count : ℕ
last_count = 8

abbrev pub state_count : ℕ
state_count = leg_place + last_count

-- ---- what a field can hold

-- the largest number of 32 bits, which the errors are held in
abbrev pub largest32 : ℕ
largest32 = 4294967295

-- ---- a field in a word

-- 'an int64_t as its 64 bits': n of n, and 2^64 - k of -k
abbrev pub run_bits : ℤ → ℕ
run_bits (pos n) = n
run_bits (negsuc n) = largest64 - n

-- the run of these bits: from 2^63 on it is negative
unfoldable pub run_in : ℕ → ℤ
run_in w = cond (ltb w signed_limit) (pos w) (negsuc (largest64 - w))

-- '1 while a mark stands, else 0'
abbrev pub bit : Bool → ℕ
bit b = cond b 1 0

-- ---- a state in words

-- from JIDROFEX_STATE_LEG on: leg, step, covered, open, errors, standing, ended, seat
abbrev pub last_words : State → List ℕ
last_words s = s.leg ∷ s.step ∷ s.covered ∷ s.opened ∷ s.errors ∷ bit s.standing ∷ bit s.ended ∷ s.seat ∷ []

-- ports, legs, starts, runs, panel, and the last words
abbrev pub state_words : State → List ℕ
state_words s = s.plan.ports ∷ s.plan.legs ∷ (s.plan.starts ++ (map run_bits s.plan.runs ++ (s.panel ++ last_words s)))

-- ---- the state that words are

-- what each field can hold at most, in the same order
abbrev pub limits : List ℕ
limits =
    largest8 ∷ largest8
    ∷ (replicate most_legs largest64 ++ (replicate most_legs largest64 ++ (replicate most_ports largest8
    ++ (largest8 ∷ largest64 ∷ largest64 ∷ largest64 ∷ largest32 ∷ 1 ∷ 1 ∷ largest8 ∷ []))))

-- whether there are as many words as limits, and none is above its own
unfoldable pub within : List ℕ → List ℕ → Bool
within [] [] = true
within [] (l ∷ ls) = false
within (w ∷ ws) [] = false
within (w ∷ ws) (l ∷ ls) = leb w l && within ws ls

-- the word at a place, and the n words from a place on
abbrev pub word : List ℕ → ℕ → ℕ
word ws at = get_or ws at 0

abbrev pub words_at : List ℕ → ℕ → ℕ → List ℕ
words_at ws at n = take n (drop at ws)

-- each field by its place
abbrev pub state_at : List ℕ → State
state_at ws = record {
  plan = record {
    ports = word ws ports_place;
    legs = word ws legs_place;
    starts = words_at ws starts_place most_legs;
    runs = map run_in (words_at ws runs_place most_legs);
  };
  panel = words_at ws panel_place most_ports;
  leg = word ws leg_place;
  step = word ws step_place;
  covered = word ws covered_place;
  opened = word ws open_place;
  errors = word ws errors_place;
  standing = eqb (word ws standing_place) 1;
  ended = eqb (word ws ended_place) 1;
  seat = word ws seat_place;
}

-- 'A slice of another length, or a word that its field cannot hold, is an unfit state'
unfoldable pub state_in : List ℕ → Option State
state_in ws = cond (within ws limits) (some (state_at ws)) none
