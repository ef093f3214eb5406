-- What a call for C answers and leaves, and what its contract asks of that (include/jidrofex.h).
-- Assumes nothing.
use Rattle.std.specs.Prelude.{ℕ, ◌≡◌, List}
use Rattle.words.specs.Told.{Told}
use Rattle.face_values.specs.Answers.{number_told, words_told}

-- what a call answers and leaves: its number, the words of the answer, and the contents of each lent slice that it may change
pub record Result : Type 0 where
  pub number : ℕ
  pub words : List ℕ
  pub left : List (List ℕ)

-- the three together
abbrev pub result : ℕ → List ℕ → List (List ℕ) → Result
result n ws l = record { number = n; words = ws; left = l }

-- the clauses of a contract
pub record Meets {A : Type 0} (values : A → List ℕ) (told : Told A) (leaves : List (List ℕ)) (r : Result) : Type 0 where
  pub number : r.number ≡ number_told told
  pub words : r.words ≡ words_told values told
  pub left : r.left ≡ leaves

-- that one result meets a contract
abbrev pub Only : {A : Type 0} → (A → List ℕ) → Told A → List (List ℕ) → Type 0
Only values told left = (r s : Result) → Meets values told left r → Meets values told left s → r ≡ s
