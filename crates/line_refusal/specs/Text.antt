-- The text of a refusal: 'it prints only `refused=` with the number, a newline, `at=` with the place, a newline' (the paper, 'Order lines').
-- Assumes nothing.
use Rattle.std.specs.Prelude.{ℕ, List, [], ◌∷◌, ◌++◌}
use Rattle.text_numbers.specs.Decimal.{digits_of}
use Rattle.text_keys.specs.Parts.{newline}

-- `refused=`
abbrev pub refused_key : List ℕ
refused_key = 114 ∷ 101 ∷ 102 ∷ 117 ∷ 115 ∷ 101 ∷ 100 ∷ 61 ∷ []

-- `at=`
abbrev pub at_key : List ℕ
at_key = 97 ∷ 116 ∷ 61 ∷ []

-- refusal k at place p
unfoldable pub refusal_text : ℕ → ℕ → List ℕ
refusal_text k p = (((refused_key ++ digits_of k) ++ (newline ∷ at_key)) ++ digits_of p) ++ (newline ∷ [])
