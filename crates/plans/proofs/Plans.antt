-- Plans both ways: the text of a plan that fits is accepted as that plan (`fits-accepted`), and a text that is accepted as a plan is its text, and the plan
-- fits (`accepted-fits`). So a plan has one text, and a text is of one plan. Before them, what a reader concludes from the first two lines.
-- Assumes nothing.
use mathlib.Core.Path.{◌≡◌, refl, sym, ap, ◌∙◌}
use mathlib.Core.List.{List, ◌++◌}
use Prim.Native.Nat.{ℕ, suc, ◌≤◌}
use native.Mathlib.Nat.{le_trans}
use native.Mathlib.Omega.{arith}
use lib.ListN.{length}
use Rattle.listing.specs.Count.{count}
use Rattle.words.specs.Told.{Spot, accepted, refused}
use Rattle.text_keys.specs.Parts.{first_of}
use Rattle.text_numbers.specs.Decimal.{digits_of}
use Rattle.words.specs.declared.Signed.{Signed}
use Rattle.words.specs.Signs.{ahead}
use Rattle.plan_lines.specs.Field.{field_text, Got, field_in}
use Rattle.words.proofs.Told.{then-accepted, accepted-once}
use Rattle.plan_lines.proofs.Numbers.{number-text, number-accepted}
use Rattle.plans.specs.Grammar.{Wide, ports_key, legs_key, legs_text, plan_text}
use Rattle.plan_rules.specs.Planned.{Planned, Limits, Fits}
use Rattle.plans.specs.Reading.{ports_field, legs_field, legs_in, with_ports, plan_in}
use Rattle.plans.proofs.Legs.{legs-text, legs-accepted}
use Rattle.plan_rules.proofs.Marks.{count-within}

-- ---- the first two lines

module _ (most : Limits) (first : ℕ) (t : List ℕ) where
  -- the ports' line is refused
  pub ports-refused : (k : ℕ) (s : Spot) → refused k s ≡ field_in (ports_field most) first t → refused k s ≡ plan_in most first t
  unfolding plan_in
  ports-refused k s e = rw (sym e)

  module _ (p : Got Signed) (e : accepted p ≡ field_in (ports_field most) first t) where
    -- the legs' line is
    pub legs-line-refused : (k : ℕ) (s : Spot) → refused k s ≡ field_in (legs_field most) (suc first) p.rest → refused k s ≡ plan_in most first t
    unfolding plan_in
    legs-line-refused k s f = rw (sym e, sym f)

    -- both are read, and the legs decide
    pub legs-decide : (l : Got Signed) → accepted l ≡ field_in (legs_field most) (suc first) p.rest
        → with_ports p.value.magnitude (legs_in most.largest (count p.value.magnitude) l.value.magnitude (suc (suc first)) l.rest) ≡ plan_in most first t
    unfolding plan_in
    legs-decide l f = rw (sym e, sym f)

-- ---- both ways

-- the text of a plan that fits is accepted as that plan
pub fits-accepted : (most : Limits) (first : ℕ) (p : Planned) → Wide most → Fits most p → plan_in most first (plan_text p) ≡ accepted p
unfolding plan_text first_of
fits-accepted most first p w h =
    let ls = p.legs in
    let more = field_text legs_key (digits_of (length ls)) ++ legs_text ls in
    let c : count p.ports ≤ suc most.largest = le_trans (count-within p.ports most.ports (omega (arith, h.few_ports)) h.many_ports) w.ranks in
    let a = number-text most.largest ports_key 2 (suc most.ports) 1 first p.ports more refl (omega (arith, w.ports, h.many_ports)) h.few_ports
    (omega (arith, h.many_ports)) in
    let b = number-text most.largest legs_key 1 (suc most.legs) 9 (suc first) (length ls) (legs_text ls) refl (omega (arith, w.legs, h.many_legs))
    h.few_legs
    (omega (arith, h.many_legs)) in
    sym (legs-decide most first (field_text ports_key (digits_of p.ports) ++ more) (record { value = ahead p.ports; rest = more }) (sym a)
    (record { value = ahead (length ls); rest = legs_text ls }) (sym b))
    ∙ ap (with_ports p.ports) (legs-text most.largest (count p.ports) ls (suc (suc first)) c h.each)

-- a text that is accepted as a plan is the plan's text, and the plan fits
pub accepted-fits : (most : Limits) (first : ℕ) (t : List ℕ) (p : Planned) → plan_in most first t ≡ accepted p → Fits most p × (t ≡ plan_text p)
unfolding plan_in plan_text
accepted-fits most first t p e =
    let a = then-accepted (field_in (ports_field most) first t) _ p e in
    let b = then-accepted (field_in (legs_field most) (suc first) a.first.rest) _ p a.on in
    let n = a.first.value.magnitude in
    let k = b.first.value.magnitude in
    let c = then-accepted (legs_in most.largest (count n) k (suc (suc first)) b.first.rest) _ p b.on in
    let x = number-accepted most.largest ports_key 2 (suc most.ports) 1 first t a.first a.taken in
    let y = number-accepted most.largest legs_key 1 (suc most.legs) 9 (suc first) a.first.rest b.first b.taken in
    let z = legs-accepted most.largest (count n) k (suc (suc first)) b.first.rest c.first c.taken in
    let same : record { ports = n; legs = c.first } ≡ p = accepted-once c.on in
    rw (sym same) (
      record {
        few_ports = x.1;
        many_ports = omega (arith, x.2);
        few_legs = omega (arith, y.1, z.many);
        many_legs = omega (arith, y.2, z.many);
        each = z.each;
      },
      x.0
          ∙ ap (λ r. field_text ports_key (digits_of n) ++ r)
          (y.0
          ∙ ap (λ r. field_text legs_key (digits_of k) ++ r) z.whole
          ∙ ap (λ m. field_text legs_key (digits_of m) ++ legs_text c.first) (sym z.many)),
    )

-- a plan has one text
pub one-text : (most : Limits) (first second : ℕ) (s t : List ℕ) (p : Planned) → plan_in most first s ≡ accepted p → plan_in most second t ≡ accepted p → s ≡ t
one-text most first second s t p e f = (accepted-fits most first s p e).1 ∙ sym (accepted-fits most second t p f).1

-- and plans that fit have different texts
pub one-plan : (most : Limits) (p q : Planned) → Wide most → Fits most p → Fits most q → plan_text p ≡ plan_text q → p ≡ q
one-plan most p q w h l e = accepted-once (sym (fits-accepted most 1 p w h) ∙ ap (plan_in most 1) e ∙ fits-accepted most 1 q w l)
