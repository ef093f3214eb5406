-- A text cut at a byte, and a text that begins with a key (the paper, 'Plans': 'Lines of key=value, each ended by one newline byte').
-- A text is the list of its bytes; places in it count from 0.
-- Assumes nothing.
use Rattle.std.specs.Prelude.{ℕ, suc, Bool, true, false, cond, List, [], ◌∷◌, eqb, length, take, drop}
use Rattle.std.proofs.Math.Option.{Option, none, some}

-- the bytes that separate
abbrev pub newline : ℕ
newline = 10

abbrev pub comma : ℕ
comma = 44

-- ---- cut

-- one place later
abbrev pub later : Option ℕ → Option ℕ
later none = none
later (some k) = some (suc k)

-- the place of the first byte b of a text, if there is one
unfoldable pub first_of : ℕ → List ℕ → Option ℕ
first_of b [] = none
first_of b (x ∷ t) = cond (eqb x b) (some 0) (later (first_of b t))

-- the text before a byte and the text after it
pub record Parts : Type 0 where
  pub front : List ℕ
  pub rest : List ℕ

abbrev pub around : List ℕ → Option ℕ → Option Parts
around t none = none
around t (some k) = some (record { front = take k t; rest = drop (suc k) t })

-- a text cut at its first byte b
abbrev pub cut : ℕ → List ℕ → Option Parts
cut b t = around t (first_of b t)

-- ---- keys

-- whether a text begins with a key
unfoldable pub begins : List ℕ → List ℕ → Bool
begins [] t = true
begins (k ∷ key) [] = false
begins (k ∷ key) (x ∷ t) = cond (eqb x k) (begins key t) false

-- what follows the key in a text that begins with it
abbrev pub after_key : List ℕ → List ℕ → Option (List ℕ)
after_key key t = cond (begins key t) (some (drop (length key) t)) none
