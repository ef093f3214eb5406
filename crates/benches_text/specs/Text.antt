-- What the command prints: a line for each bench, or the sums. A bench's plan is the text of that plan (`plans.Grammar.plan_text`), and a refusal its number and its
-- place (`line_refusal.Text.refusal_text`).
-- Assumes nothing.
use Rattle.std.specs.Prelude.{ℕ, zero, suc, List, [], ◌∷◌, ◌++◌}
use Rattle.std.proofs.Math.Option.{Option, none, some}
use Rattle.promise.specs.Plan.{Leg}
use Rattle.text_numbers.specs.Decimal.{digits_of}
use Rattle.text_keys.specs.Parts.{newline}
use Rattle.plan_lines.specs.Field.{field_text}
use Rattle.line_refusal.specs.Words.{quoted}
use Rattle.benches_laws.specs.Plans.{plan_of}
use Rattle.benches_laws.specs.Calls.{Counts}

-- the end of a line
abbrev pub ended : List ℕ
ended = newline ∷ []

-- a number after its key, in the middle of a line
abbrev pub said : List ℕ → ℕ → List ℕ
said key n = key ++ digits_of n

-- the line of a bench: `bench=0 start=0 run=66`, or `bench=9 none`
unfoldable pub bench_line : ℕ → Option Leg → List ℕ
bench_line b none = said (quoted "bench=") b ++ (quoted " none" ++ ended)
bench_line b (some l) = said (quoted "bench=") b ++ (said (quoted " start=") l.start ++ (said (quoted " run=") l.run ++ ended))

-- the lines of so many benches among k, from bench b on
unfoldable pub bench_lines : ℕ → ℕ → ℕ → ℕ → List ℕ
bench_lines n k b zero = []
bench_lines n k b (suc left) = bench_line b (plan_of n k b) ++ bench_lines n k (suc b) left

-- the sums, of how many patterns
unfoldable pub sum_lines : Counts → ℕ → List ℕ
sum_lines c of =
    field_text (quoted "covered=") (digits_of c.covered)
    ++ (field_text (quoted "open=") (digits_of c.opened) ++ (field_text (quoted "errors=") (digits_of c.errors) ++ field_text (quoted "of=") (digits_of of)))

-- ANSWER_BYTES: no answer is longer
abbrev pub most_answer : ℕ
most_answer = 5056
