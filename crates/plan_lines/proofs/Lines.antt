-- One line: what a reader may conclude from each step, in the paper's order. First for the newline and the key, by places in the text, then for the number and
-- the value, for every kind of line.
-- Assumes nothing.
use mathlib.Core.Path.{◌≡◌, sym, ap, ◌∙◌}
use mathlib.Core.Bool.{true, false, and-eq-true_iff}
use mathlib.Core.List.{List, [], ◌∷◌}
use mathlib.Core.Option.{none, some}
use Prim.Native.Nat.{ℕ, zero, suc, ◌+◌, ◌-◌, ◌≤◌, ◌<◌}
use native.Mathlib.Nat.{add-suc}
use native.Mathlib.Numerals.{add-one}
use native.Mathlib.Omega.{arith}
use lib.Dec.{leb, ltb}
use lib.ListN.{length, take, drop, length-drop}
use lib.Seq.{take-nil, drop-drop, length-take-le}
use borrow.Author.Tests.{le-leb, lt-ltb, leb-true, ltb-true}
use Rattle.words.specs.Told.{Spot, accepted, refused, at_line}
use Rattle.words.specs.declared.Signed.{Signed}
use Rattle.text_keys.specs.Parts.{newline, first_of, begins, Parts}
use Rattle.text_keys.proofs.Cuts.{first-inside, to_the_end}
use Rattle.text_keys.proofs.Keys.{key-room}
use Rattle.plan_lines.specs.Field.{line_in, between, value_in, Field, field_in}
use Rattle.plan_lines.specs.Places.{part}

-- ---- parts of a text

-- the front of a text without its first k bytes
pub drop-take : (k n : ℕ) (l : List ℕ) → drop k (take n l) ≡ take (n - k) (drop k l)
drop-take zero n l = let e : n - 0 ≡ n = omega arith in rw e
drop-take (suc k) zero l = let e : 0 - suc k ≡ 0 = omega arith in rw e
drop-take (suc k) (suc n) [] = sym (take-nil (suc n - suc k))
drop-take (suc k) (suc n) (x ∷ l) = let e : suc n - suc k ≡ n - k = omega arith in rw e (drop-take k n l)

-- the part up to the end
pub part-rest : (t : List ℕ) (at : ℕ) → part at (length t) t ≡ drop at t
part-rest = to_the_end

-- the part of n bytes
pub part-front : (t : List ℕ) (at n : ℕ) → part at (at + n) t ≡ take n (drop at t)
part-front t at n = let e : at + n - at ≡ n = omega arith in rw e

-- the part of n bytes without its first k
pub part-after : (t : List ℕ) (at n k : ℕ) → drop k (take n (drop at t)) ≡ part (at + k) (at + n) t
part-after t at n k =
    let e : n - k ≡ at + n - (at + k) = omega arith in
    drop-take k n (drop at t) ∙ ap (take (n - k)) (drop-drop k at t) ∙ ap (λ m. take m (drop (at + k) t)) e

-- ---- newline and key, from a place on

module _ (t : List ℕ) (at : ℕ) (key : List ℕ) (line : ℕ) where
  -- no newline: 11
  pub line-open : none ≡ first_of newline (part at (length t) t) → refused 11 (at_line line) ≡ line_in key line (drop at t)
  unfolding line_in
  line-open e = rw (sym (part-rest t at), sym e)

  module _ (n : ℕ) (e : some n ≡ first_of newline (part at (length t) t)) where
    newline-at : first_of newline (drop at t) ≡ some n
    newline-at = sym (e ∙ ap (first_of newline) (part-rest t at))

    -- the newline stands in the text
    pub line-within : at ≤ length t → at + n < length t
    line-within h = omega (arith, first-inside newline (drop at t) n newline-at, length-drop at t)

    -- another key: 7
    pub key-missing : false ≡ begins key (part at (at + n) t) → refused 7 (at_line line) ≡ line_in key line (drop at t)
    unfolding line_in
    key-missing f = rw (newline-at, sym (part-front t at n), sym f)

    module _ (f : true ≡ begins key (part at (at + n) t)) where
      -- the key: its value reaches to the newline
      pub key-found : accepted (record { front = part (at + length key) (at + n) t; rest = drop (at + n + 1) t }) ≡ line_in key line (drop at t)
      unfolding line_in
      key-found =
          let g : begins key (take n (drop at t)) ≡ true = sym (f ∙ ap (begins key) (part-front t at n)) in
          let r : drop (suc n) (drop at t) ≡ drop (at + n + 1) t = drop-drop (suc n) at t ∙ ap (λ m. drop m t) (add-suc at n ∙ sym (add-one (at + n))) in
          sym (rw (newline-at, g) (λ i. accepted (record { front = part-after t at n (length key) i; rest = r i })))

      -- and is no less than nothing
      pub key-within : at + n < length t → at + length key ≤ at + n
      key-within h =
          let g : length (take n (drop at t)) ≡ n = length-take-le n (drop at t) (omega (arith, length-drop at t)) in
          omega (arith, key-room key (take n (drop at t)) (sym (f ∙ ap (begins key) (part-front t at n))))

-- ---- number and value

-- a value from low on and below `below` is good
pub good-value : (low below n : ℕ) → low ≤ n → n < below → between low below n ≡ true
unfolding between
good-value low below n h l = rw (le-leb low n h, lt-ltb n below l)

-- a good value is from low on and below `below`
pub value-good : (low below n : ℕ) → between low below n ≡ true → (low ≤ n) × (n < below)
unfolding between
value-good low below n e = let t = (and-eq-true_iff (leb low n) (ltb n below)).0 e in (leb-true low n t.0, ltb-true n below t.1)

module _ (f : Field) (line : ℕ) (t : List ℕ) where
  -- the line is refused
  pub field-refused : (k : ℕ) (s : Spot) → refused k s ≡ line_in f.key line t → refused k s ≡ field_in f line t
  unfolding field_in
  field-refused k s e = rw (sym e)

  module _ (p : Parts) (e : accepted p ≡ line_in f.key line t) where
    -- no number: 8
    pub no_number : none ≡ value_in f.sign f.largest p.front → refused 8 (at_line line) ≡ field_in f line t
    unfolding field_in
    no_number g = rw (sym e, sym g)

    module _ (s : Signed) (g : some s ≡ value_in f.sign f.largest p.front) where
      -- a good value
      pub value_taken : true ≡ between f.low f.below s.magnitude → accepted (record { value = s; rest = p.rest }) ≡ field_in f line t
      unfolding field_in
      value_taken h = rw (sym e, sym g, sym h)

      -- any other
      pub value-refused : false ≡ between f.low f.below s.magnitude → refused f.refusal (at_line line) ≡ field_in f line t
      unfolding field_in
      value-refused h = rw (sym e, sym g, sym h)
