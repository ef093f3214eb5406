-- The numbers that a plan is refused with.
-- Assumes nothing.
use mathlib.Core.Path.{refl}
use mathlib.Core.Logic.{inl, inr}
use mathlib.Core.List.{List, [], ◌∷◌}
use Prim.Native.Nat.{ℕ, zero, suc}
use Rattle.listing.specs.Count.{count}
use Rattle.listing.proofs.Numbers.{of_test}
use Rattle.words.specs.Told.{at_line}
use Rattle.words.proofs.Told.{each-accepted, each-then}
use Rattle.text_keys.specs.Parts.{newline, cut, after_key}
use Rattle.plan_rules.specs.Planned.{Limits}
use Rattle.plan_lines.specs.Field.{line_in, between, value_in, Field, field_in}
use Rattle.plans.specs.Reading.{ports_field, legs_field, start_field, run_field, leg_in, legs_in, plan_in}
use Rattle.demands.specs.One.{OneOf, Listed, Refuses}
use Rattle.demands.proofs.Numbers.{from-refused, from-need}

-- ---- plans: the numbers of its refusals

-- a line's: 11, 7, 8, and the field's own
field-numbers : (ns : List ℕ) (f : Field) (line : ℕ) (t : List ℕ) → OneOf ns 11 → OneOf ns 7 → OneOf ns 8 → OneOf ns f.refusal
    → Refuses ns (field_in f line t)
unfolding field_in line_in
field-numbers ns f line t e v z h =
    each-then (Listed ns) _ _
    (each-then (Listed ns) _ _ (from-need ns 11 (at_line line) (cut newline t) refl e) (λ p. each-then (Listed ns) _ _ (from-need ns 7 (at_line line) (after_key f.key p.front) refl v) (λ w. each-accepted (Listed ns) _)))
    (λ p. each-then (Listed ns) _ _ (from-need ns 8 (at_line line) (value_in f.sign f.largest p.front) refl z)
    (λ s. of_test (Refuses ns) (between f.low f.below s.magnitude) _ _ (each-accepted (Listed ns) _) (from-refused ns f.refusal (at_line line) refl h)))

-- the numbers of a plan, in the paper's order
abbrev ns : List ℕ
ns = 11 ∷ 7 ∷ 8 ∷ 1 ∷ 9 ∷ 6 ∷ 10 ∷ []

eleven : OneOf ns 11
eleven = inl refl

seven : OneOf ns 7
seven = inr (inl refl)

eight : OneOf ns 8
eight = inr (inr (inl refl))

leg-numbers : (largest size line : ℕ) (t : List ℕ) → Refuses ns (leg_in largest size line t)
unfolding leg_in
leg-numbers largest size line t =
    each-then (Listed ns) _ _ (field-numbers ns (start_field largest size) line t eleven seven eight (inr (inr (inr (inr (inr (inl refl)))))))
    (λ s. each-then (Listed ns) _ _ (field-numbers ns (run_field largest size) (suc line) s.rest eleven seven eight (inr (inr (inr (inr (inr (inr (inl refl))))))))
    (λ r. each-accepted (Listed ns) _))

legs-numbers : (largest size left line : ℕ) (t : List ℕ) → Refuses ns (legs_in largest size left line t)
unfolding legs_in
legs-numbers largest size zero line [] = each-accepted (Listed ns) []
legs-numbers largest size zero line (b ∷ t) = from-refused ns 11 (at_line line) refl eleven
legs-numbers largest size (suc left) line t =
    each-then (Listed ns) _ _ (leg-numbers largest size line t)
    (λ g. each-then (Listed ns) _ _ (legs-numbers largest size left (suc (suc line)) g.rest) (λ ms. each-accepted (Listed ns) _))

-- a plan's: those of its lines, and 11 for a byte after the last
pub plan-numbers : (most : Limits) (first : ℕ) (t : List ℕ) → Refuses (11 ∷ 7 ∷ 8 ∷ 1 ∷ 9 ∷ 6 ∷ 10 ∷ []) (plan_in most first t)
unfolding plan_in
plan-numbers most first t =
    each-then (Listed ns) _ _ (field-numbers ns (ports_field most) first t eleven seven eight (inr (inr (inr (inl refl)))))
    (λ p. each-then (Listed ns) _ _ (field-numbers ns (legs_field most) (suc first) p.rest eleven seven eight (inr (inr (inr (inr (inl refl))))))
    (λ k. each-then (Listed ns) _ _ (legs-numbers most.largest (count p.value.magnitude) k.value.magnitude (suc (suc first)) k.rest) (λ ls. each-accepted (Listed ns) _)))
