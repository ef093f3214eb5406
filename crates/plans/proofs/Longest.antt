-- How long the text of a plan is, and how many marks a plan has. Bounds over the limits (`text-bounded`, `marks-bounded`), at the device with 20 ports
-- (`text-801`, `marks-most`), and one plan that attains both (`longest`).
-- Assumes nothing.
use mathlib.Core.Path.{◌≡◌, ap, ◌∙◌}
use mathlib.Core.Bool.{Bool, true, false}
use mathlib.Core.List.{List, [], ◌∷◌, ◌++◌}
use Prim.Native.Nat.{ℕ, zero, suc, ◌+◌, ◌*◌, ◌≤◌, ◌<◌}
use native.Mathlib.Nat.{mul-le-mul}
use native.Mathlib.Omega.{arith}
use lib.ListN.{length, replicate, length-append, length-replicate}
use Rattle.listing.specs.Count.{count}
use Rattle.listing.specs.Limits.{most_ports, most_legs}
use Rattle.listing.proofs.Limits.{count-20, most-marks}
use Rattle.promise.specs.Plan.{Leg, marks}
use Rattle.words.specs.Told.{accepted}
use Rattle.text_numbers.specs.Decimal.{digits_of}
use Rattle.text_numbers.specs.Signed.{signed_digits}
use Rattle.text_numbers.proofs.Lengths.{digits-at-most, digits_above, digits-no-fewer}
use Rattle.plan_lines.specs.Field.{field_text}
use Rattle.plans.specs.Grammar.{Wide, ports_key, legs_key, start_key, run_key, leg_text, legs_text, plan_text}
use Rattle.plan_rules.specs.Planned.{Planned, Limits, run_of, LegFits, EachFits, Fits, device}
use Rattle.plans.specs.Calls.{read_plan_of}
use Rattle.plans.proofs.Plans.{fits-accepted, accepted-fits}
use Rattle.plan_rules.proofs.Marks.{count-within, marks-bounded}

-- the digits of a number, counted
abbrev pub places : ℕ → ℕ
places n = length (digits_of n)

-- ---- lines and legs

-- a line has one byte more than its key and its value
pub field-length : (key v : List ℕ) → length (field_text key v) ≡ length key + length v + 1
field-length key v = length-append (key ++ v) _ ∙ ap (λ k. k + 1) (length-append key v)

-- a run has a sign more than digits, at most
run_length : (back : Bool) (run : ℕ) → length (signed_digits (record { back = back; magnitude = run })) ≤ places run + 1
run_length true run = omega arith
run_length false run = omega arith

-- a leg among `size` ranks: two lines of at most as many digits as `size` has, and a sign
leg-length : (size : ℕ) (l : Leg) → LegFits size l → length (leg_text l) ≤ 13 + 2 * places size
leg-length size l h =
    let a = field_text start_key (digits_of l.start) in
    let b = field_text run_key (signed_digits (run_of l)) in
    let s : places l.start ≤ places size = digits-no-fewer l.start size (omega (arith, h.start)) in
    let r : places l.run ≤ places size = digits-no-fewer l.run size (omega (arith, h.run)) in
    omega (arith, length-append a b, field-length start_key (digits_of l.start), field-length run_key (signed_digits (run_of l)), run_length l.back l.run)

legs-length : (size : ℕ) (ls : List Leg) → EachFits size ls → length (legs_text ls) ≤ length ls * (13 + 2 * places size)
unfolding legs_text
legs-length size [] h = omega arith
legs-length size (l ∷ ls) h =
    let a : length (leg_text l) ≤ 13 + 2 * places size = leg-length size l h.0 in
    let b : length (legs_text ls) ≤ length ls * (13 + 2 * places size) = legs-length size ls h.1 in
    let c : suc (length ls) * (13 + 2 * places size) ≡ length ls * (13 + 2 * places size) + (13 + 2 * places size) = omega arith in
    omega (arith, length-append (leg_text l) (legs_text ls))

-- ---- bounds over the limits

-- the text of a plan that fits: the lines of the most ports and the most legs, and for each leg 13 bytes and the digits of two numbers
pub text-bounded : (most : Limits) (p : Planned) → Fits most p
    → length (plan_text p) ≤ (7 + places most.ports) + (6 + places most.legs) + most.legs * (13 + 2 * places (count most.ports))
unfolding plan_text
text-bounded most p h =
    let ls = p.legs in
    let a = field_text ports_key (digits_of p.ports) in
    let b = field_text legs_key (digits_of (length ls)) in
    let n : places p.ports ≤ places most.ports = digits-no-fewer p.ports most.ports h.many_ports in
    let k : places (length ls) ≤ places most.legs = digits-no-fewer (length ls) most.legs h.many_legs in
    let c : places (count p.ports) ≤ places (count most.ports) =
    digits-no-fewer (count p.ports) (count most.ports) (count-within p.ports most.ports (omega (arith, h.few_ports)) h.many_ports) in
    let d : length ls * (13 + 2 * places (count p.ports)) ≤ most.legs * (13 + 2 * places (count most.ports)) =
    mul-le-mul h.many_legs (omega arith) in
    omega (
      arith,
      length-append a (b ++ legs_text ls),
      length-append b (legs_text ls),
      field-length ports_key (digits_of p.ports),
      field-length legs_key (digits_of (length ls)),
      legs-length (count p.ports) ls h.each,
    )

-- ---- at the device

-- two digits, and eighteen
two_digits : (n : ℕ) → 10 ≤ n → n < 100 → places n ≡ 2
two_digits n h l = omega (arith, digits-at-most 1 n (omega arith), digits_above 1 n (omega arith))

eighteen-digits : (n : ℕ) → 100000000000000000 ≤ n → n < 1000000000000000000 → places n ≡ 18
eighteen-digits n h l = omega (arith, digits-at-most 17 n (omega arith), digits_above 17 n (omega arith))

-- it holds its ports, its legs and its ranks
pub device-wide : Wide device
device-wide = record { ports = omega arith; legs = omega arith; ranks = omega (arith, count-20) }

-- no accepted text is longer than 801 bytes
pub text-801 : (t : List ℕ) (p : Planned) → read_plan_of t ≡ accepted p → length t ≤ 801
text-801 t p e =
    let f = accepted-fits device 1 t p e in
    let c : places (count most_ports) ≡ 18 = ap places count-20 ∙ eighteen-digits 895014631192902121 (omega arith) (omega arith) in
    omega (arith, text-bounded device p f.0, ap length f.1, two_digits 20 (omega arith) (omega arith), two_digits 16 (omega arith) (omega arith))

-- no accepted plan has more than 14320234099086433936 marks
pub marks-most : (t : List ℕ) (p : Planned) → read_plan_of t ≡ accepted p → marks p.legs ≤ 14320234099086433936
marks-most t p e = omega (arith, marks-bounded device p (accepted-fits device 1 t p e).0, most-marks)

-- ---- a plan that attains both

-- a leg round the whole circuit of 20 ports, backward from the last rank
abbrev pub longest_leg : Leg
longest_leg = record { start = 895014631192902120; back = true; run = 895014631192902120 }

-- 20 ports and sixteen such legs
abbrev pub longest : Planned
longest = record { ports = most_ports; legs = replicate most_legs longest_leg }

-- the same leg several times
same-fits : (size k : ℕ) (l : Leg) → LegFits size l → EachFits size (replicate k l)
same-fits size zero l h = tt
same-fits size (suc k) l h = (h, same-fits size k l h)

same_length : (k : ℕ) (l : Leg) → length (legs_text (replicate k l)) ≡ k * length (leg_text l)
unfolding legs_text
same_length zero l = omega arith
same_length (suc k) l =
    let e : length (legs_text (replicate k l)) ≡ k * length (leg_text l) = same_length k l in
    let c : suc k * length (leg_text l) ≡ length (leg_text l) + k * length (leg_text l) = omega arith in
    omega (arith, length-append (leg_text l) (legs_text (replicate k l)))

same-marks : (k : ℕ) (l : Leg) → marks (replicate k l) ≡ k * suc l.run
unfolding marks
same-marks zero l = omega arith
same-marks (suc k) l =
    let e : marks (replicate k l) ≡ k * suc l.run = same-marks k l in
    let c : suc k * suc l.run ≡ suc l.run + k * suc l.run = omega arith in
    omega arith

-- it fits, so its text is accepted
pub longest-fits : Fits device longest
longest-fits =
    let size : 895014631192902120 < count most_ports = omega (arith, count-20) in
    record {
      few_ports = omega arith;
      many_ports = omega arith;
      few_legs = omega (arith, length-replicate most_legs longest_leg);
      many_legs = omega (arith, length-replicate most_legs longest_leg);
      each = same-fits (count most_ports) most_legs longest_leg (record { start = size; run = size; behind = λ e. omega arith });
    }

pub longest-accepted : read_plan_of (plan_text longest) ≡ accepted longest
longest-accepted = fits-accepted device 1 longest device-wide longest-fits

-- its leg has 49 bytes
longest-leg : length (leg_text longest_leg) ≡ 49
longest-leg =
    let d = digits_of 895014631192902120 in
    let n : length d ≡ 18 = eighteen-digits 895014631192902120 (omega arith) (omega arith) in
    omega (arith, length-append (field_text start_key d) (field_text run_key (45 ∷ d)), field-length start_key d, field-length run_key (45 ∷ d))

-- its text has 801 bytes
pub longest-801 : length (plan_text longest) ≡ 801
unfolding plan_text
longest-801 =
    let ls = longest.legs in
    let a = field_text ports_key (digits_of most_ports) in
    let b = field_text legs_key (digits_of (length ls)) in
    omega (
      arith,
      length-append a (b ++ legs_text ls),
      length-append b (legs_text ls),
      field-length ports_key (digits_of most_ports),
      field-length legs_key (digits_of most_legs),
      two_digits 20 (omega arith) (omega arith),
      two_digits 16 (omega arith) (omega arith),
      same_length most_legs longest_leg,
      longest-leg,
    )

-- and it has the most marks
pub longest-marks : marks longest.legs ≡ 14320234099086433936
longest-marks = same-marks most_legs longest_leg
