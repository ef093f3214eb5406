-- The text of a plan (the paper, 'Plans'): 'Lines of key=value in this order, each ended by one newline byte: ports, legs, then for each leg start
-- (a rank) and run (signed)'. The limits of the device are parameters.
-- Assumes nothing.
use Rattle.std.specs.Prelude.{ℕ, suc, ◌≤◌, List, [], ◌∷◌, ◌++◌, length}
use Rattle.listing.specs.Count.{count}
use Rattle.promise.specs.Plan.{Leg}
use Rattle.text_numbers.specs.Decimal.{digits_of}
use Rattle.plan_rules.specs.Planned.{Planned, Limits, run_of}
use Rattle.text_numbers.specs.Signed.{signed_digits}
use Rattle.plan_lines.specs.Field.{field_text}

-- a device that holds its ports, its legs and its ranks
pub record Wide (most : Limits) : Type 0 where
  pub ports : most.ports ≤ most.largest
  pub legs : most.legs ≤ most.largest
  pub ranks : count most.ports ≤ suc most.largest

-- ---- the text of a plan

-- the keys, each with its `=`
abbrev pub ports_key : List ℕ
ports_key = 112 ∷ 111 ∷ 114 ∷ 116 ∷ 115 ∷ 61 ∷ []

abbrev pub legs_key : List ℕ
legs_key = 108 ∷ 101 ∷ 103 ∷ 115 ∷ 61 ∷ []

abbrev pub start_key : List ℕ
start_key = 115 ∷ 116 ∷ 97 ∷ 114 ∷ 116 ∷ 61 ∷ []

abbrev pub run_key : List ℕ
run_key = 114 ∷ 117 ∷ 110 ∷ 61 ∷ []

-- the two lines of a leg
abbrev pub leg_text : Leg → List ℕ
leg_text l = field_text start_key (digits_of l.start) ++ field_text run_key (signed_digits (run_of l))

unfoldable pub legs_text : List Leg → List ℕ
legs_text [] = []
legs_text (l ∷ ls) = leg_text l ++ legs_text ls

-- the text of a plan
unfoldable pub plan_text : Planned → List ℕ
plan_text p = field_text ports_key (digits_of p.ports) ++ (field_text legs_key (digits_of (length p.legs)) ++ legs_text p.legs)
