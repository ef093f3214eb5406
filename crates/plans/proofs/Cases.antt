-- Texts, good and bad, beside what each tells: one table and one theorem (the paper, 'Cases to prove', and the cases of lines, keys and numbers).
-- Assumes nothing.
use mathlib.Core.Path.{◌≡◌, refl, sym}
use mathlib.Core.Bool.{Bool, true, false, true≢false}
use mathlib.Core.List.{List, [], ◌∷◌, ◌++◌, map}
use Prim.Native.Nat.{ℕ, zero, suc, ◌<◌}
use native.Mathlib.Omega.{arith}
use lib.ListN.{replicate}
use Rattle.listing.specs.Count.{count}
use Rattle.listing.specs.Limits.{most_ports}
use Rattle.listing.proofs.Limits.{count-20}
use Rattle.promise.specs.Plan.{Leg}
use Rattle.words.specs.Told.{Told, accepted, refused, at_line}
use Rattle.text_keys.specs.Parts.{newline, first_of, begins}
use Rattle.text_numbers.specs.Decimal.{glyph, spell, digits_of, digit_in, onward, number_in, up_to}
use Rattle.text_numbers.specs.Signed.{minus, signed_up_to}
use Rattle.text_numbers.proofs.Cases.{all_but_one}
use Rattle.plan_lines.specs.Field.{field_text, line_in, between, field_in}
use Rattle.plans.specs.Grammar.{ports_key, legs_key, start_key, run_key, legs_text, plan_text}
use Rattle.plan_rules.specs.Planned.{Planned, device}
use Rattle.plans.specs.Reading.{leg_in, legs_in, plan_in}
use Rattle.plans.specs.Calls.{read_plan_of}
use Rattle.plans.proofs.Plans.{fits-accepted}
use Rattle.plans.proofs.Longest.{device-wide}

-- a text beside what it tells
pub record Case : Type 0 where
  pub text : List ℕ
  pub tells : Told Planned

-- ---- lines and plans, shortly

abbrev pub ports : List ℕ → List ℕ
ports v = field_text ports_key v

abbrev pub legs : List ℕ → List ℕ
legs v = field_text legs_key v

abbrev pub start : List ℕ → List ℕ
start v = field_text start_key v

abbrev pub run : List ℕ → List ℕ
run v = field_text run_key v

-- a number by its digits, and one with `-` before it
abbrev pub n : List ℕ → List ℕ
n ds = map glyph ds

abbrev pub neg : List ℕ → List ℕ
neg ds = minus ∷ n ds

-- a text of one leg, and the plan of one leg
abbrev pub one : List ℕ → List ℕ → List ℕ → List ℕ
one p s r = ports p ++ (legs (n (1 ∷ [])) ++ (start s ++ run r))

abbrev pub leg : ℕ → Bool → ℕ → Leg
leg s b r = record { start = s; back = b; run = r }

abbrev pub plan_of : ℕ → List Leg → Told Planned
plan_of p ls = accepted (record { ports = p; legs = ls })

-- refusal k at a line
abbrev pub no : ℕ → ℕ → Told Planned
no k line = refused k (at_line line)

-- the text of legs that start at 0 and run 0, as many as wanted
abbrev pub stays : ℕ → List ℕ
stays zero = []
stays (suc k) = (start (n (0 ∷ [])) ++ run (n (0 ∷ []))) ++ stays k

-- a text and what it tells
infixl 2 ◌is◌
abbrev pub ◌is◌ : List ℕ → Told Planned → Case
t is told = record { text = t; tells = told }

-- ---- the tables

-- no byte; no newline; a lone newline; a newline first; a key with a space after it, with a space before it, with a NUL before it; another key
abbrev pub lines : List Case
lines =
    ([] is no 11 1)
    ∷ (ports_key ++ n (4 ∷ []) is no 11 1)
    ∷ (newline ∷ [] is no 7 1)
    ∷ (newline ∷ one (n (4 ∷ [])) (n (0 ∷ [])) (n (2 ∷ [])) is no 7 1)
    ∷ (112 ∷ 111 ∷ 114 ∷ 116 ∷ 115 ∷ 32 ∷ 61 ∷ 52 ∷ newline ∷ [] is no 7 1)
    ∷ (32 ∷ ports (n (4 ∷ [])) is no 7 1)
    ∷ (0 ∷ ports (n (4 ∷ [])) is no 7 1)
    ∷ (legs (n (1 ∷ [])) ++ ports (n (4 ∷ [])) is no 7 1)
    ∷ []

-- no digit; `04`; `+4`; `-4`; a carriage return, a NUL, byte 200 after the digit; byte 200 before it; 18446744073709551616; 30 digits:
-- 8. 18446744073709551615, 0, 1, 21, and 276, which is 20 in one byte: 1
abbrev pub numbers : List Case
numbers =
    (ports [] is no 8 1)
    ∷ (ports (n (0 ∷ 4 ∷ [])) is no 8 1)
    ∷ (ports (43 ∷ n (4 ∷ [])) is no 8 1)
    ∷ (ports (neg (4 ∷ [])) is no 8 1)
    ∷ (ports (n (4 ∷ []) ++ (13 ∷ [])) is no 8 1)
    ∷ (ports (n (4 ∷ []) ++ (0 ∷ [])) is no 8 1)
    ∷ (ports (n (4 ∷ []) ++ (200 ∷ [])) is no 8 1)
    ∷ (ports (200 ∷ n (4 ∷ [])) is no 8 1)
    ∷ (ports (all_but_one ++ n (6 ∷ [])) is no 8 1)
    ∷ (ports (replicate 30 49) is no 8 1)
    ∷ (ports (all_but_one ++ n (5 ∷ [])) is no 1 1)
    ∷ (ports (n (0 ∷ [])) is no 1 1)
    ∷ (ports (n (1 ∷ [])) is no 1 1)
    ∷ (ports (n (2 ∷ 1 ∷ [])) is no 1 1)
    ∷ (ports (n (2 ∷ 7 ∷ 6 ∷ [])) is no 1 1)
    ∷ []

-- the legs' line missing; without newline; `-1` legs; 0 and 17 legs, also before a leg's line that is wrong; then for one leg: its lines missing; run before
-- start; start `-1`, 9, `18446744073709551616`; the run's line missing; run `-0`, 9, `-9`, -18446744073709551615, -18446744073709551616
abbrev pub leg_lines : List Case
leg_lines =
    (ports (n (4 ∷ [])) is no 11 2)
    ∷ (ports (n (4 ∷ [])) ++ (legs_key ++ n (1 ∷ [])) is no 11 2)
    ∷ (ports (n (4 ∷ [])) ++ legs (neg (1 ∷ [])) is no 8 2)
    ∷ (ports (n (4 ∷ [])) ++ legs (n (0 ∷ [])) is no 9 2)
    ∷ (ports (n (4 ∷ [])) ++ legs (n (1 ∷ 7 ∷ [])) is no 9 2)
    ∷ (ports (n (4 ∷ [])) ++ (legs (n (1 ∷ 7 ∷ [])) ++ run (n (0 ∷ []))) is no 9 2)
    ∷ (ports (n (4 ∷ [])) ++ legs (n (1 ∷ [])) is no 11 3)
    ∷ (ports (n (4 ∷ [])) ++ (legs (n (1 ∷ [])) ++ (run (n (2 ∷ [])) ++ start (n (0 ∷ [])))) is no 7 3)
    ∷ (one (n (4 ∷ [])) (neg (1 ∷ [])) (n (0 ∷ [])) is no 8 3)
    ∷ (one (n (4 ∷ [])) (n (9 ∷ [])) (n (0 ∷ [])) is no 6 3)
    ∷ (one (n (4 ∷ [])) (all_but_one ++ n (6 ∷ [])) (n (0 ∷ [])) is no 8 3)
    ∷ (ports (n (4 ∷ [])) ++ (legs (n (1 ∷ [])) ++ start (n (8 ∷ []))) is no 11 4)
    ∷ (one (n (4 ∷ [])) (n (8 ∷ [])) (neg (0 ∷ [])) is no 8 4)
    ∷ (one (n (4 ∷ [])) (n (8 ∷ [])) (n (9 ∷ [])) is no 10 4)
    ∷ (one (n (4 ∷ [])) (n (8 ∷ [])) (neg (9 ∷ [])) is no 10 4)
    ∷ (one (n (4 ∷ [])) (n (8 ∷ [])) (minus ∷ all_but_one ++ n (5 ∷ [])) is no 10 4)
    ∷ (one (n (4 ∷ [])) (n (8 ∷ [])) (minus ∷ all_but_one ++ n (6 ∷ [])) is no 8 4)
    ∷ []

-- the second leg missing; after the last line a byte, a byte and a newline, a newline; a seventeenth leg, and a byte after the sixteenth; run 1 and -1 for 2
-- ports
abbrev pub ends : List Case
ends =
    (ports (n (4 ∷ [])) ++ (legs (n (2 ∷ [])) ++ stays 1) is no 11 5)
    ∷ (one (n (4 ∷ [])) (n (0 ∷ [])) (n (2 ∷ [])) ++ (120 ∷ []) is no 11 5)
    ∷ (one (n (4 ∷ [])) (n (0 ∷ [])) (n (2 ∷ [])) ++ (120 ∷ newline ∷ []) is no 11 5)
    ∷ (one (n (4 ∷ [])) (n (0 ∷ [])) (n (2 ∷ [])) ++ (newline ∷ []) is no 11 5)
    ∷ (ports (n (2 ∷ [])) ++ (legs (n (1 ∷ 6 ∷ [])) ++ stays 17) is no 11 35)
    ∷ (ports (n (2 ∷ [])) ++ (legs (n (1 ∷ 6 ∷ [])) ++ (stays 16 ++ (0 ∷ []))) is no 11 35)
    ∷ (one (n (2 ∷ [])) (n (0 ∷ [])) (n (1 ∷ [])) is no 10 4)
    ∷ (one (n (2 ∷ [])) (n (0 ∷ [])) (neg (1 ∷ [])) is no 10 4)
    ∷ []

-- run 8 and -8 for 4 ports, run 0 for 2, sixteen legs, and the paper's example
abbrev pub plans : List Case
plans =
    (one (n (4 ∷ [])) (n (8 ∷ [])) (n (8 ∷ [])) is plan_of 4 (leg 8 false 8 ∷ []))
    ∷ (one (n (4 ∷ [])) (n (8 ∷ [])) (neg (8 ∷ [])) is plan_of 4 (leg 8 true 8 ∷ []))
    ∷ (one (n (2 ∷ [])) (n (0 ∷ [])) (n (0 ∷ [])) is plan_of 2 (leg 0 false 0 ∷ []))
    ∷ (ports (n (2 ∷ [])) ++ (legs (n (1 ∷ 6 ∷ [])) ++ stays 16) is plan_of 2 (replicate 16 (leg 0 false 0)))
    ∷ (ports (n (4 ∷ [])) ++ (legs (n (2 ∷ [])) ++ (start (n (0 ∷ [])) ++ (run (n (2 ∷ [])) ++ (start (n (8 ∷ [])) ++ run (neg (1 ∷ []))))))
    is plan_of 4 (leg 0 false 2 ∷ leg 8 true 1 ∷ []))
    ∷ []

-- 20 ports
abbrev pub twenty : Case
twenty = one (n (2 ∷ 0 ∷ [])) (n (0 ∷ [])) (n (0 ∷ [])) is plan_of 20 (leg 0 false 0 ∷ [])

abbrev pub others : List Case
others = lines ++ (numbers ++ (leg_lines ++ (ends ++ plans)))

abbrev pub cases : List Case
cases = twenty ∷ others

-- ---- each text tells what stands beside it

-- the plan of 20 ports fits, and its text is accepted
twenty-holds : read_plan_of twenty.text ≡ twenty.tells
unfolding spell digits_of legs_text plan_text
twenty-holds =
    let one : 0 < count most_ports = omega (arith, count-20) in
    fits-accepted device 1 (record { ports = 20; legs = leg 0 false 0 ∷ [] }) device-wide
    (record {
      few_ports = omega arith;
      many_ports = omega arith;
      few_legs = omega arith;
      many_legs = omega arith;
      each = (record { start = one; run = one; behind = λ e. absurd (true≢false (sym e)) }, tt);
    })

others-hold : map (λ c. read_plan_of c.text) others ≡ map (λ c. c.tells) others
unfolding count first_of begins digit_in onward number_in up_to signed_up_to line_in between field_in leg_in legs_in plan_in
others-hold = refl

pub cases-hold : map (λ c. read_plan_of c.text) cases ≡ map (λ c. c.tells) cases
cases-hold = λ i. twenty-holds i ∷ others-hold i
