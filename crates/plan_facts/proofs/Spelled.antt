-- A line put together from its parts: key, value and newline.
-- Assumes nothing.
use mathlib.Core.Path.{◌≡◌, ap, subst}
use mathlib.Core.Bool.{true, false}
use mathlib.Core.List.{List, [], ◌∷◌, ◌++◌, append_assoc}
use Prim.Native.Nat.{ℕ}
use Rattle.words.specs.declared.Signed.{Signed}
use Rattle.text_numbers.specs.Decimal.{digits_of}
use Rattle.text_keys.specs.Parts.{newline, comma}
use Rattle.plan_lines.specs.Field.{field_text}
use Rattle.line_writer.specs.Answers.{Spells, Grown}
use Rattle.line_writer.specs.declared.order_lines.Spelled.{Spelled}
use Rattle.line_writer.proofs.Spelling.{spells-more}
use Rattle.plan_facts.specs.Facts.{pair_text, run_key, run_text}

-- a key and a number, and the newline
pub spells-field : (s r : Spelled) (key : List ℕ) (n : ℕ) → Spells s (key ++ digits_of n) → Grown s (newline ∷ []) r → Spells r (field_text key (digits_of n))
spells-field s r key n h g = spells-more s r (key ++ digits_of n) (newline ∷ []) h g

-- a key and a number, a comma and another, and the newline
pub spells-pair : (s m r : Spelled) (key : List ℕ) (a b : ℕ) → Spells s (key ++ digits_of a) → Grown s ((comma ∷ []) ++ digits_of b) m
    → Grown m (newline ∷ []) r → Spells r (pair_text key a b)
spells-pair s m r key a b h g n =
    let both = spells-more s m (key ++ digits_of a) (comma ∷ digits_of b) h g in
    let all = spells-more m r _ (newline ∷ []) both n in
    subst (Spells r) (ap (λ t. t ++ (newline ∷ [])) (append_assoc key (digits_of a) (comma ∷ digits_of b))) all

-- a run that goes back has its sign after the key, one that goes on has none
module _ (s : Signed) (r : Spelled) where
  pub run-back : s.back ≡ true → Spells r (field_text (114 ∷ 117 ∷ 110 ∷ 61 ∷ 45 ∷ []) (digits_of s.magnitude)) → Spells r (run_text s)
  unfolding run_text
  run-back e h = rw e h

  pub run_on : s.back ≡ false → Spells r (field_text run_key (digits_of s.magnitude)) → Spells r (run_text s)
  unfolding run_text
  run_on e h = rw e h
