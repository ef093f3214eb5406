-- The lines of facts: key, value and a newline, as plans have them.
-- Assumes nothing.
use Rattle.std.specs.Prelude.{ℕ, List, [], ◌∷◌, ◌++◌}
use Rattle.words.specs.declared.Signed.{Signed}
use Rattle.text_numbers.specs.Decimal.{digits_of}
use Rattle.text_numbers.specs.Signed.{signed_digits}
use Rattle.text_keys.specs.Parts.{comma}
use Rattle.plan_lines.specs.Field.{field_text}

-- two numbers after a key, a comma between them
abbrev pub pair_text : List ℕ → ℕ → ℕ → List ℕ
pair_text key a b = field_text key (digits_of a ++ (comma ∷ digits_of b))

-- `cord=`
abbrev pub cord_key : List ℕ
cord_key = 99 ∷ 111 ∷ 114 ∷ 100 ∷ 61 ∷ []

-- the cord at jack j, which holds port p: the jack first
unfoldable pub cord_text : ℕ → ℕ → List ℕ
cord_text j p = pair_text cord_key j p

-- `run=`
abbrev pub run_key : List ℕ
run_key = 114 ∷ 117 ∷ 110 ∷ 61 ∷ []

-- a run with its sign
unfoldable pub run_text : Signed → List ℕ
run_text s = field_text run_key (signed_digits s)
