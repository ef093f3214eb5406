-- A plan read from its text (the paper, 'Plans'): 'Checks go line by line, and in a line: newline present (11), key with its = (7), number (8), value (1, 9, 6
-- or 10). A byte after the last line is 11, at the number of the line it begins.' The limits and the number of the first line are parameters.
-- Assumes nothing.
use Rattle.std.specs.Prelude.{ℕ, zero, suc, List, [], ◌∷◌, ◌++◌}
use Rattle.listing.specs.Count.{count}
use Rattle.promise.specs.Plan.{Leg}
use Rattle.words.specs.Told.{Told, accepted, refused, at_line, then}
use Rattle.plan_lines.specs.Field.{Field, Got, field_in, unsigned, signed}
use Rattle.plans.specs.Grammar.{ports_key, legs_key, start_key, run_key}
use Rattle.plan_rules.specs.Planned.{Planned, Limits, leg_by}

-- ---- the four kinds of line

-- 1: ports not 2 to the most
abbrev pub ports_field : Limits → Field
ports_field most = unsigned most.largest ports_key 2 (suc most.ports) 1

-- 9: legs not 1 to the most
abbrev pub legs_field : Limits → Field
legs_field most = unsigned most.largest legs_key 1 (suc most.legs) 9

-- 6: rank not below the count
abbrev pub start_field : ℕ → ℕ → Field
start_field largest size = unsigned largest start_key 0 size 6

-- 10: run too long
abbrev pub run_field : ℕ → ℕ → Field
run_field largest size = signed largest run_key 0 size 10

-- ---- legs and plans

-- the two lines of a leg among `size` ranks
unfoldable pub leg_in : ℕ → ℕ → ℕ → List ℕ → Told (Got Leg)
leg_in largest size line t =
    then (field_in (start_field largest size) line t)
    (λ s. then (field_in (run_field largest size) (suc line) s.rest)
    (λ r. accepted (record { value = leg_by s.value.magnitude r.value; rest = r.rest })))

-- the end of the text: a byte more is 11
abbrev pub ended : ℕ → List ℕ → Told (List Leg)
ended line [] = accepted []
ended line (b ∷ t) = refused 11 (at_line line)

-- legs and those after them
abbrev pub preceded : List Leg → Told (List Leg) → Told (List Leg)
preceded ls told = then told (λ ms. accepted (ls ++ ms))

-- as many legs as are left, and then the end of the text
unfoldable pub legs_in : ℕ → ℕ → ℕ → ℕ → List ℕ → Told (List Leg)
legs_in largest size zero line t = ended line t
legs_in largest size (suc left) line t =
    then (leg_in largest size line t) (λ g. preceded (g.value ∷ []) (legs_in largest size left (suc (suc line)) g.rest))

-- a plan with these ports
abbrev pub with_ports : ℕ → Told (List Leg) → Told Planned
with_ports ports told = then told (λ ls. accepted (record { ports = ports; legs = ls }))

-- a plan, its first line numbered `first`
unfoldable pub plan_in : Limits → ℕ → List ℕ → Told Planned
plan_in most first t =
    then (field_in (ports_field most) first t)
    (λ p. then (field_in (legs_field most) (suc first) p.rest)
    (λ k. with_ports p.value.magnitude (legs_in most.largest (count p.value.magnitude) k.value.magnitude (suc (suc first)) k.rest)))
