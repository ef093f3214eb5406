-- How long the answers are: a number of 64 bits has 20 digits at most.
-- Assumes nothing.
use mathlib.Core.Path.{ap}
use mathlib.Core.Bool.{Bool, true, false, cond}
use mathlib.Core.List.{List, [], ◌∷◌, ◌++◌}
use Prim.Native.Nat.{ℕ, ◌+◌, ◌≤◌}
use native.Mathlib.Omega.{arith}
use lib.ListN.{length, length-append}
use Rattle.listing.specs.Limits.{largest64}
use Rattle.promise.specs.Plan.{Leg}
use Rattle.text_numbers.specs.Decimal.{digits_of}
use Rattle.text_numbers.specs.Signed.{minus, signed_digits}
use Rattle.text_numbers.proofs.Lengths.{digits-64}
use Rattle.text_keys.specs.Parts.{newline}
use Rattle.plan_lines.specs.Field.{field_text}
use Rattle.plan_rules.specs.Planned.{run_of}
use Rattle.plans.specs.Grammar.{ports_key, legs_key, start_key, run_key}
use Rattle.line_refusal.specs.Words.{quoted}
use Rattle.line_refusal.specs.Text.{refused_key, at_key, refusal_text}
use Rattle.benches_laws.specs.Plans.{one_plan_text}
use Rattle.benches_text.specs.Text.{said, sum_lines, most_answer}
use Rattle.benches_text.proofs.Lines.{refusal-lines, plan-lines}

-- a number after its key, and a line of it
pub said-most : (key : List ℕ) (n : ℕ) → n ≤ largest64 → length (said key n) ≤ length key + 20
said-most key n h = omega (arith, length-append key (digits_of n), digits-64 n h)

field-most : (key : List ℕ) (n : ℕ) → n ≤ largest64 → length (field_text key (digits_of n)) ≤ length key + 21
field-most key n h = omega (arith, length-append (key ++ digits_of n) (newline ∷ []), said-most key n h)

-- with a sign one more
signed-most : (l : Leg) → l.run ≤ largest64 → length (signed_digits (run_of l)) ≤ 21
signed-most l h = by l.back
  where
    by : (b : Bool) → length (cond b (minus ∷ digits_of l.run) (digits_of l.run)) ≤ 21
    by true = omega (arith, digits-64 l.run h)
    by false = omega (arith, digits-64 l.run h)

run-most : (l : Leg) → l.run ≤ largest64 → length (field_text run_key (signed_digits (run_of l))) ≤ 26
run-most l h =
    omega (arith, length-append (run_key ++ signed_digits (run_of l)) (newline ∷ []), length-append run_key (signed_digits (run_of l)), signed-most l h)

-- two lines
pub refusal-short : (k p : ℕ) → k ≤ largest64 → p ≤ largest64 → length (refusal_text k p) ≤ most_answer
refusal-short k p h i =
    let a = field_text refused_key (digits_of k) in
    let b = field_text at_key (digits_of p) in
    omega (arith, ap length (refusal-lines k p), length-append a b, field-most refused_key k h, field-most at_key p i)

-- four
pub plan-short : (n : ℕ) (l : Leg) → n ≤ largest64 → l.start ≤ largest64 → l.run ≤ largest64 → length (one_plan_text n l) ≤ most_answer
plan-short n l h i j =
    let a = field_text ports_key (digits_of n) in
    let b = field_text legs_key (digits_of 1) in
    let c = field_text start_key (digits_of l.start) in
    let d = field_text run_key (signed_digits (run_of l)) in
    omega (
      arith,
      ap length (plan-lines n l),
      length-append a (b ++ (c ++ d)),
      length-append b (c ++ d),
      length-append c d,
      field-most ports_key n h,
      field-most legs_key 1 (omega arith),
      field-most start_key l.start i,
      run-most l j,
    )

pub sums-short : (x y z of : ℕ) → x ≤ largest64 → y ≤ largest64 → z ≤ largest64 → of ≤ largest64
    → length (sum_lines (record { covered = x; opened = y; errors = z }) of) ≤ most_answer
unfolding sum_lines quoted
sums-short x y z of h i j k =
    let a = field_text (quoted "covered=") (digits_of x) in
    let b = field_text (quoted "open=") (digits_of y) in
    let c = field_text (quoted "errors=") (digits_of z) in
    let d = field_text (quoted "of=") (digits_of of) in
    omega (
      arith,
      length-append a (b ++ (c ++ d)),
      length-append b (c ++ d),
      length-append c d,
      field-most (quoted "covered=") x h,
      field-most (quoted "open=") y i,
      field-most (quoted "errors=") z j,
      field-most (quoted "of=") of k,
    )
