-- A line with a number both ways: the text of a good one is accepted (`value-text`), and what is accepted is such a text (`value-accepted`). At the end the same
-- for a line where no sign may stand (`number-text`, `number-accepted`).
-- Assumes nothing.
use mathlib.Core.Path.{◌≡◌, refl, sym, ap, ◌∙◌}
use mathlib.Core.Bool.{Bool, true, false, true≢false}
use mathlib.Core.List.{List, [], ◌∷◌, ◌++◌}
use mathlib.Core.Option.{Option, none, some}
use Prim.Native.Nat.{ℕ, ◌≤◌, ◌<◌}
use native.Mathlib.Omega.{arith}
use Rattle.words.specs.Told.{accepted}
use Rattle.words.specs.Signs.{ahead}
use Rattle.words.specs.declared.Signed.{Signed}
use Rattle.text_keys.specs.Parts.{newline, first_of}
use Rattle.text_keys.proofs.Cuts.{digits-clear, first-append}
use Rattle.text_numbers.specs.Decimal.{digits_of, number_up_to}
use Rattle.text_numbers.specs.Signed.{minus, signed_digits, plain}
use Rattle.text_numbers.proofs.Inverse.{none-some}
use Rattle.text_numbers.proofs.Limits.{number-up-to, digits-up-to}
use Rattle.text_numbers.proofs.Signed.{signed-of-digits, digits-of-signed}
use Rattle.plan_lines.specs.Field.{field_text, value_in, Field, Got, field_in, unsigned}
use Rattle.plan_lines.proofs.OneLine.{field-accepted, field-text}

-- ---- a number and its text, whether a sign may stand or not

-- behind only where a sign may stand, and not by 0
abbrev pub Sayable : Bool → Signed → Type 0
Sayable sign s = s.back ≡ true → (sign ≡ true) × (1 ≤ s.magnitude)

-- numbers have no newline
clear-signed : (back : Bool) (n : ℕ) → first_of newline (signed_digits (record { back = back; magnitude = n })) ≡ none
unfolding first_of
clear-signed false n = digits-clear newline n (omega arith)
clear-signed true n = first-append newline (minus ∷ []) (digits_of n) refl (digits-clear newline n (omega arith))

-- a number where no sign may stand
plain-text : (largest : ℕ) (back : Bool) (n : ℕ) → let s : Signed = record { back = back; magnitude = n } in
    Sayable false s → n ≤ largest → plain (number_up_to largest (signed_digits s)) ≡ some s
plain-text largest false n p h = ap plain (number-up-to largest n h)
plain-text largest true n p h = absurd (true≢false (sym (p refl).0))

text-plain : (largest : ℕ) (v : List ℕ) (o : Option ℕ) (s : Signed) → number_up_to largest v ≡ o → plain o ≡ some s → (v ≡ signed_digits s) × Sayable false s
text-plain largest v none s e f = absurd (none-some s f)
text-plain largest v (some n) s e f =
    let g : ahead n ≡ s = cc in rw (sym g) ((digits-up-to largest v n e).0, λ b. absurd (true≢false (sym b)))

number-of-text : (sign : Bool) (largest : ℕ) (s : Signed) → Sayable sign s → s.magnitude ≤ largest → value_in sign largest (signed_digits s) ≡ some s
number-of-text true largest s p h = signed-of-digits largest s (λ b. (p b).1) h
number-of-text false largest s p h = plain-text largest s.back s.magnitude p h

text-of-number : (sign : Bool) (largest : ℕ) (v : List ℕ) (s : Signed) → value_in sign largest v ≡ some s → (v ≡ signed_digits s) × Sayable sign s
text-of-number true largest v s e = let d = digits-of-signed largest v s e in (d.text, λ b. (refl, d.proper b))
text-of-number false largest v s e = text-plain largest v (number_up_to largest v) s refl e

-- ---- a line

module _ (f : Field) (line : ℕ) where
  pub value-text : (s : Signed) (rest : List ℕ) → first_of newline f.key ≡ none → Sayable f.sign s → s.magnitude ≤ f.largest
      → f.low ≤ s.magnitude → s.magnitude < f.below
      → field_in f line (field_text f.key (signed_digits s) ++ rest) ≡ accepted (record { value = s; rest = rest })
  value-text s rest clear p h l b =
      field-text f line (signed_digits s) rest s (first-append newline f.key (signed_digits s) clear (clear-signed s.back s.magnitude))
      (number-of-text f.sign f.largest s p h) l b

  -- what is accepted as a line
  pub record ValueOf (t : List ℕ) (g : Got Signed) : Type 0 where
    pub whole : t ≡ field_text f.key (signed_digits g.value) ++ g.rest
    pub sayable : Sayable f.sign g.value
    pub low : f.low ≤ g.value.magnitude
    pub below : g.value.magnitude < f.below

  pub value-accepted : (t : List ℕ) (g : Got Signed) → field_in f line t ≡ accepted g → ValueOf t g
  value-accepted t g e =
      let w = field-accepted f line t g e in
      let d = text-of-number f.sign f.largest w.value g.value w.number in
      record { whole = w.whole ∙ ap (λ v. field_text f.key v ++ g.rest) d.0; sayable = d.1; low = w.low; below = w.below }

-- ---- a line where no sign may stand

unsigned-digits : (back : Bool) (n : ℕ) → Sayable false (record { back = back; magnitude = n }) → signed_digits (record { back = back; magnitude = n }) ≡ digits_of n
unsigned-digits false n p = refl
unsigned-digits true n p = absurd (true≢false (sym (p refl).0))

module _ (largest : ℕ) (key : List ℕ) (low below k line : ℕ) where
  pub number-text : (n : ℕ) (rest : List ℕ) → first_of newline key ≡ none → n ≤ largest → low ≤ n → n < below
      → field_in (unsigned largest key low below k) line (field_text key (digits_of n) ++ rest) ≡ accepted (record { value = ahead n; rest = rest })
  number-text n rest clear h l b = value-text (unsigned largest key low below k) line (ahead n) rest clear (λ b. absurd (true≢false (sym b))) h l b

  pub number-accepted : (t : List ℕ) (g : Got Signed) → field_in (unsigned largest key low below k) line t ≡ accepted g
      → let n = g.value.magnitude in (t ≡ field_text key (digits_of n) ++ g.rest) × (low ≤ n) × (n < below)
  number-accepted t g e =
      let w = value-accepted (unsigned largest key low below k) line t g e in
      (w.whole ∙ ap (λ v. field_text key v ++ g.rest) (unsigned-digits g.value.back g.value.magnitude w.sayable), w.low, w.below)
