-- Legs both ways: the text of legs that fit is read as these legs (`leg-text`, `legs-text`), and what is read as legs is their text, and they fit
-- (`leg-accepted`, `legs-accepted`). Before them, what a reader concludes from each line of a leg.
-- Assumes nothing.
use mathlib.Core.Path.{◌≡◌, refl, sym, ap, ◌∙◌}
use mathlib.Core.Bool.{true≢false}
use mathlib.Core.List.{List, [], ◌∷◌, ◌++◌, append_assoc}
use Prim.Native.Nat.{ℕ, zero, suc, ◌+◌, ◌≤◌}
use native.Mathlib.Numerals.{add-one}
use native.Mathlib.Omega.{arith}
use lib.ListN.{length}
use Rattle.promise.specs.Plan.{Leg}
use Rattle.words.specs.Told.{Spot, accepted, refused}
use Rattle.text_keys.specs.Parts.{first_of}
use Rattle.text_numbers.specs.Decimal.{digits_of}
use Rattle.words.specs.Signs.{ahead}
use Rattle.words.specs.declared.Signed.{Signed}
use Rattle.text_numbers.specs.Signed.{signed_digits}
use Rattle.plan_lines.specs.Field.{field_text, Got, field_in}
use Rattle.words.proofs.Told.{then-accepted, accepted-once}
use Rattle.plan_lines.proofs.Numbers.{number-text, number-accepted, value-text, value-accepted}
use Rattle.plans.specs.Grammar.{start_key, run_key, leg_text, legs_text}
use Rattle.plan_rules.specs.Planned.{run_of, LegFits, EachFits, leg_by}
use Rattle.plans.specs.Reading.{start_field, run_field, leg_in, preceded, legs_in}

-- ---- the two lines of a leg

module _ (largest size line : ℕ) (t : List ℕ) where
  -- the start's line is refused
  pub start-refused : (k : ℕ) (s : Spot) → refused k s ≡ field_in (start_field largest size) line t → refused k s ≡ leg_in largest size line t
  unfolding leg_in
  start-refused k s e = rw (sym e)

  module _ (g : Got Signed) (e : accepted g ≡ field_in (start_field largest size) line t) where
    -- the run's line is
    pub run-refused : (k : ℕ) (s : Spot) → refused k s ≡ field_in (run_field largest size) (line + 1) g.rest → refused k s ≡ leg_in largest size line t
    unfolding leg_in
    run-refused k s f = let h = rw (add-one line) at f in rw (sym e, sym h)

    -- both are read
    pub leg-taken : (r : Got Signed) → accepted r ≡ field_in (run_field largest size) (line + 1) g.rest
        → accepted (record { value = leg_by g.value.magnitude r.value; rest = r.rest }) ≡ leg_in largest size line t
    unfolding leg_in
    leg-taken r f = let h = rw (add-one line) at f in rw (sym e, sym h)

-- a leg that fits is read from its text
pub leg-text : (largest size line : ℕ) (l : Leg) (rest : List ℕ) → size ≤ suc largest → LegFits size l
    → leg_in largest size line (leg_text l ++ rest) ≡ accepted (record { value = l; rest = rest })
unfolding first_of
leg-text largest size line l rest w h =
    let a = field_text start_key (digits_of l.start) in
    let b = field_text run_key (signed_digits (run_of l)) in
    let s = number-text largest start_key 0 size 6 line l.start (b ++ rest) refl (omega (arith, h.start)) (omega arith) h.start in
    let r = value-text (run_field largest size) (line + 1) (run_of l) rest refl (λ e. (refl, h.behind e)) (omega (arith, h.run)) (omega arith) h.run in
    ap (leg_in largest size line) (append_assoc a b rest)
    ∙ sym
    (leg-taken largest size line (a ++ (b ++ rest)) (record { value = ahead l.start; rest = b ++ rest }) (sym s) (record { value = run_of l; rest = rest })
    (sym r))

-- what is read as a leg is its text, and it fits
pub record LegOf (size : ℕ) (t : List ℕ) (g : Got Leg) : Type 0 where
  pub whole : t ≡ leg_text g.value ++ g.rest
  pub fits : LegFits size g.value

pub leg-accepted : (largest size line : ℕ) (t : List ℕ) (g : Got Leg) → leg_in largest size line t ≡ accepted g → LegOf size t g
unfolding leg_in
leg-accepted largest size line t g e =
    let b = then-accepted (field_in (start_field largest size) line t) _ g e in
    let r = then-accepted (field_in (run_field largest size) (suc line) b.first.rest) _ g b.on in
    let s = number-accepted largest start_key 0 size 6 line t b.first b.taken in
    let q = value-accepted (run_field largest size) (suc line) b.first.rest r.first r.taken in
    let start = b.first.value.magnitude in
    let run = r.first.value in
    let a = field_text start_key (digits_of start) in
    let same : record { value = leg_by start run; rest = r.first.rest } ≡ g = accepted-once r.on in
    rw (sym same)
    (record {
      whole = s.0 ∙ ap (λ x. a ++ x) q.whole ∙ sym (append_assoc a (field_text run_key (signed_digits run)) r.first.rest);
      fits = record { start = s.2; run = q.below; behind = λ e. (q.sayable e).1 };
    })

-- ---- legs

module _ (largest size : ℕ) where
  -- one leg of those that are left
  pub legs-on : (left line : ℕ) (t : List ℕ) (g : Got Leg) → accepted g ≡ leg_in largest size line t
      → legs_in largest size (suc left) line t ≡ preceded (g.value ∷ []) (legs_in largest size left (suc (suc line)) g.rest)
  unfolding legs_in
  legs-on left line t g e = rw (sym e)

  -- it is refused
  pub legs-refused : (left line : ℕ) (t : List ℕ) (k : ℕ) (s : Spot) → refused k s ≡ leg_in largest size line t
      → legs_in largest size (suc left) line t ≡ refused k s
  unfolding legs_in
  legs-refused left line t k s e = rw (sym e)

  -- legs that fit are read from their text
  pub legs-text : (ls : List Leg) (line : ℕ) → size ≤ suc largest → EachFits size ls → legs_in largest size (length ls) line (legs_text ls) ≡ accepted ls
  unfolding legs_text legs_in
  legs-text [] line w h = refl
  legs-text (l ∷ ls) line w h =
      legs-on (length ls) line (leg_text l ++ legs_text ls) (record { value = l; rest = legs_text ls }) (sym (leg-text largest size line l (legs_text ls) w h.0))
      ∙ ap (preceded (l ∷ [])) (legs-text ls (suc (suc line)) w h.1)

  -- what is read as legs is their text; they are as many as were left, and they fit
  pub record LegsOf (left : ℕ) (t : List ℕ) (ls : List Leg) : Type 0 where
    pub whole : t ≡ legs_text ls
    pub many : length ls ≡ left
    pub each : EachFits size ls

  pub legs-accepted : (left line : ℕ) (t : List ℕ) (ls : List Leg) → legs_in largest size left line t ≡ accepted ls → LegsOf left t ls
  unfolding legs_in legs_text
  legs-accepted zero line [] ls e = let same : [] ≡ ls = accepted-once e in rw (sym same) (record { whole = refl; many = refl; each = tt })
  legs-accepted zero line (b ∷ t) ls e = absurd (true≢false (cc))
  legs-accepted (suc left) line t ls e =
      let b = then-accepted (leg_in largest size line t) _ ls e in
      let r = then-accepted (legs_in largest size left (suc (suc line)) b.first.rest) _ ls b.on in
      let l = leg-accepted largest size line t b.first b.taken in
      let m = legs-accepted left (suc (suc line)) b.first.rest r.first r.taken in
      let same : b.first.value ∷ r.first ≡ ls = accepted-once r.on in
      rw (sym same)
      (record {
        whole = l.whole ∙ ap (λ x. leg_text b.first.value ++ x) m.whole;
        many = ap suc m.many;
        each = (l.fits, m.each);
      })
