-- One line both ways: what an accepted line says of its text (`field-accepted`), and that such a text is accepted (`field-text`), with any number of the line
-- (`field-anywhere`). Before them, what an accepted step of a judgement says of its parts.
-- Assumes nothing.
use mathlib.Core.Path.{◌≡◌, refl, sym, ap, subst, ◌∙◌}
use mathlib.Core.Bool.{Bool, true, false, true≢false}
use mathlib.Core.List.{List, ◌∷◌, ◌++◌}
use mathlib.Core.Option.{none, some}
use Prim.Native.Nat.{ℕ, ◌≤◌, ◌<◌}
use lib.Seq.{append_snoc}
use Rattle.words.specs.Told.{accepted, at_line, then, need}
use Rattle.words.specs.declared.Signed.{Signed}
use Rattle.words.proofs.Told.{accepted-once, need-accepted, then-accepted}
use Rattle.text_keys.specs.Parts.{newline, first_of, Parts, cut, after_key}
use Rattle.text_keys.proofs.Cuts.{cut-joined, cut_parts}
use Rattle.text_keys.proofs.Keys.{after-key, key-after}
use Rattle.plan_lines.specs.Field.{field_text, passed, line_in, between, value_in, Field, Got, field_in}
use Rattle.plan_lines.proofs.Lines.{good-value, value-good}

-- ---- accepted steps

-- what has to pass passes
pub passed-accepted : {A : Type 0} (k line : ℕ) (t : Bool) (x a : A) → passed k line t x ≡ accepted a → (t ≡ true) × (x ≡ a)
passed-accepted k line true x a e = (refl, (cc))
passed-accepted k line false x a e = absurd (true≢false (cc))

-- ---- a line

-- a line of a kind at the front of a text: key, value and newline, where the value is a number, and a good one
pub record FieldOf (f : Field) (t : List ℕ) (g : Got Signed) : Type 0 where
  pub value : List ℕ
  pub whole : t ≡ field_text f.key value ++ g.rest
  pub number : value_in f.sign f.largest value ≡ some g.value
  pub low : f.low ≤ g.value.magnitude
  pub below : g.value.magnitude < f.below

-- key, value and newline before a text
field-joined : (key v t : List ℕ) → field_text key v ++ t ≡ (key ++ v) ++ (newline ∷ t)
field-joined key v t = append_snoc (key ++ v) newline t

module _ (f : Field) (line : ℕ) where
  -- a line that was read
  line-accepted : (t : List ℕ) (p : Parts) → line_in f.key line t ≡ accepted p → t ≡ field_text f.key p.front ++ p.rest
  unfolding line_in
  line-accepted t p e =
      let b = then-accepted (need 11 (at_line line) (cut newline t)) _ p e in
      let q = b.first in
      let c = cut_parts newline t q (need-accepted 11 (at_line line) (cut newline t) q b.taken) in
      let k = then-accepted (need 7 (at_line line) (after_key f.key q.front)) _ p b.on in
      let v = key-after f.key q.front k.first (need-accepted 7 (at_line line) (after_key f.key q.front) k.first k.taken) in
      let g : record { front = k.first; rest = q.rest } ≡ p = accepted-once k.on in
      c.whole
      ∙ ap (λ s. s ++ (newline ∷ q.rest)) v
      ∙ sym (field-joined f.key k.first q.rest)
      ∙ ap (λ (r : Parts). field_text f.key r.front ++ r.rest) g

  -- an accepted line is key, value and newline, the value a number, and a good one
  pub field-accepted : (t : List ℕ) (g : Got Signed) → field_in f line t ≡ accepted g → FieldOf f t g
  unfolding field_in
  field-accepted t g e =
      let b = then-accepted (line_in f.key line t) _ g e in
      let p = b.first in
      let n = then-accepted (need 8 (at_line line) (value_in f.sign f.largest p.front)) _ g b.on in
      let v = passed-accepted f.refusal line (between f.low f.below n.first.magnitude) _ g n.on in
      let r = value-good f.low f.below n.first.magnitude v.0 in
      rw (sym v.1)
      (record {
        value = p.front;
        whole = line-accepted t p b.taken;
        number = need-accepted 8 (at_line line) (value_in f.sign f.largest p.front) n.first n.taken;
        low = r.0;
        below = r.1;
      })

  -- and every such text is accepted
  pub field-text : (v rest : List ℕ) (a : Signed) → first_of newline (f.key ++ v) ≡ none → value_in f.sign f.largest v ≡ some a → f.low ≤ a.magnitude → a.magnitude < f.below
      → field_in f line (field_text f.key v ++ rest) ≡ accepted (record { value = a; rest = rest })
  unfolding field_in line_in
  field-text v rest a clear number low below =
      let good : between f.low f.below a.magnitude ≡ true = good-value f.low f.below a.magnitude low below in
      rw (field-joined f.key v rest, cut-joined newline (f.key ++ v) rest clear, after-key f.key v, number, good)

  -- the number of a line is told where it is refused only: an accepted line is accepted as any other line too
  pub field-anywhere : (k : ℕ) (t : List ℕ) (g : Got Signed) → field_in f line t ≡ accepted g → field_in f k t ≡ accepted g
  unfolding field_in line_in
  field-anywhere k t g e =
      let b = then-accepted (line_in f.key line t) _ g e in
      let c = then-accepted (need 11 (at_line line) (cut newline t)) _ b.first b.taken in
      let a = then-accepted (need 7 (at_line line) (after_key f.key c.first.front)) _ b.first c.on in
      let n = then-accepted (need 8 (at_line line) (value_in f.sign f.largest b.first.front)) _ g b.on in
      let v = passed-accepted f.refusal line (between f.low f.below n.first.magnitude) _ g n.on in
      let parts : record { front = a.first; rest = c.first.rest } ≡ b.first = accepted-once a.on in
      let newline-is = need-accepted 11 (at_line line) (cut newline t) c.first c.taken in
      let key-is = need-accepted 7 (at_line line) (after_key f.key c.first.front) a.first a.taken in
      let number_is = need-accepted 8 (at_line line) (value_in f.sign f.largest b.first.front) n.first n.taken in
      rw (newline-is, key-is)
      (subst
      (λ (p : Parts). then (need 8 (at_line k) (value_in f.sign f.largest p.front))
      (λ s. passed f.refusal k (between f.low f.below s.magnitude) (record { value = s; rest = p.rest })) ≡ accepted g)
      (sym parts) (rw (number_is, v.0) (ap accepted v.1)))
