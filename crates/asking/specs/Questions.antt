-- What a text asks: one pattern (`pattern=` and its entries), one mark of a plan (`mark=` and its number, and then the plan's lines), or a whole plan. The
-- first key says which. Each is refused with the paper's numbers; the lines of a plan keep their own numbers from 1.
-- Assumes nothing.
use Rattle.std.specs.Prelude.{ℕ, Bool, true, false, cond, List, [], ◌∷◌, leb, ltb, length, drop}
use Rattle.listing.specs.Limits.{most_ports, largest64}
use Rattle.promise.specs.Plan.{Leg, marks}
use Rattle.words.specs.Told.{Told, accepted, refused, nowhere, then}
use Rattle.text_keys.specs.Parts.{begins}
use Rattle.patterns.specs.Calls.{rank_of}
use Rattle.plan_lines.specs.Field.{Field, field_in, unsigned}
use Rattle.plan_rules.specs.Planned.{Planned}
use Rattle.plans.specs.Calls.{read_plan_of}
use Rattle.text_entries.specs.Entries.{one_line, entries_of}

-- the keys, each with its `=`: `pattern=`, `mark=`
abbrev pub pattern_key : List ℕ
pattern_key = 112 ∷ 97 ∷ 116 ∷ 116 ∷ 101 ∷ 114 ∷ 110 ∷ 61 ∷ []

abbrev pub mark_key : List ℕ
mark_key = 109 ∷ 97 ∷ 114 ∷ 107 ∷ 61 ∷ []

-- what is asked: a plan, and all of it or one mark of it by its number
pub record Asked : Type 0 where
  pub plan : Planned
  pub whole : Bool
  pub mark : ℕ

-- ---- a pattern

-- the leg that starts at a pattern's rank and goes one step on; none for 2 ports, which have one pattern
abbrev pub pattern_leg : ℕ → ℕ → Leg
pattern_leg ports rank = record { start = rank; back = false; run = cond (leb ports 2) 0 1 }

-- a pattern as the first mark of the plan with that leg
abbrev pub of_pattern : ℕ → ℕ → Asked
of_pattern ports rank = record { plan = record { ports = ports; legs = pattern_leg ports rank ∷ [] }; whole = false; mark = 0 }

-- the entries of a pattern: 8, then 1 where there are too many, then what its rank refuses (1, and then 3, 4 or 5 at the jack)
unfoldable pub entries_asked : List ℕ → Told Asked
entries_asked t = then (entries_of t) (λ p. then (rank_of most_ports p) (λ r. accepted (of_pattern (length p) r)))

-- the text after the key `pattern=`: one line of entries
unfoldable pub pattern_asked : List ℕ → Told Asked
pattern_asked t = then (one_line t) entries_asked

-- ---- a mark of a plan

-- the line `mark=` with a number, as line 0. The largest number of 64 bits is no mark of any plan, and 6 at once
abbrev pub mark_field : Field
mark_field = unsigned largest64 mark_key 0 largest64 6

-- mark k of a plan: 6 if it has no such mark
abbrev pub of_mark : ℕ → Planned → Asked
of_mark k p = record { plan = p; whole = false; mark = k }

abbrev pub mark_of : ℕ → Planned → Told Asked
mark_of k p = cond (ltb k (marks p.legs)) (accepted (of_mark k p)) (refused 6 nowhere)

-- mark k of the plan that a text is: the plan's refusals at its own lines, then 6
unfoldable pub marked_asked : ℕ → List ℕ → Told Asked
marked_asked k t = then (read_plan_of t) (mark_of k)

-- a text with a line for the mark, and the plan after it
unfoldable pub mark_asked : List ℕ → Told Asked
mark_asked t = then (field_in mark_field 0 t) (λ g. marked_asked g.value.magnitude g.rest)

-- ---- a whole plan

abbrev pub whole_plan : Planned → Asked
whole_plan p = record { plan = p; whole = true; mark = 0 }

unfoldable pub whole_asked : List ℕ → Told Asked
whole_asked t = then (read_plan_of t) (λ p. accepted (whole_plan p))

-- ---- any question

unfoldable pub question_of : List ℕ → Told Asked
question_of t = cond (begins pattern_key t) (pattern_asked (drop (length pattern_key) t)) (cond (begins mark_key t) (mark_asked t) (whole_asked t))
