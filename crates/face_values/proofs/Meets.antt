-- The clauses of a contract of a call for C, taken together: its number and its words, and with them the one slice or the two that it leaves; and that one
-- result meets them.
-- Assumes nothing.
use Prim.Native.Nat.{ℕ}
use mathlib.Core.Path.{◌≡◌, refl, sym, ap, ◌∙◌}
use mathlib.Core.List.{List, [], ◌∷◌}
use Rattle.words.specs.Told.{Told}
use Rattle.face_values.specs.Answers.{number_told, words_told}
use Rattle.face_values.specs.Only.{Meets, Only, result}

module _ {A : Type 0} {values : A → List ℕ} {told : Told A} {n : ℕ} {ws : List ℕ} where
  -- a call that leaves nothing but its answer
  pub meets : (n ≡ number_told told) × (ws ≡ words_told values told) → Meets values told [] (result n ws [])
  meets h = record { number = h.0; words = h.1; left = refl }

  -- one that leaves a slice
  pub meets-leaving : {b c : List ℕ} → (n ≡ number_told told) × ((ws ≡ words_told values told) × (b ≡ c)) → Meets values told (c ∷ []) (result n ws (b ∷ []))
  meets-leaving h = record { number = h.0; words = h.1.0; left = ap (λ x. x ∷ []) h.1.1 }

  -- one that leaves two
  pub meets-leaving-both : {b c d e : List ℕ} → (n ≡ number_told told) × ((ws ≡ words_told values told) × ((b ≡ c) × (d ≡ e)))
      → Meets values told (c ∷ e ∷ []) (result n ws (b ∷ d ∷ []))
  meets-leaving-both h = record { number = h.0; words = h.1.0; left = λ i. h.1.1.0 i ∷ h.1.1.1 i ∷ [] }

-- one result meets the clauses of a contract
pub only : {A : Type 0} (values : A → List ℕ) (told : Told A) (left : List (List ℕ)) → Only values told left
only values told left r s m n = λ i. record {
  number = (m.number ∙ sym n.number) i;
  words = (m.words ∙ sym n.words) i;
  left = (m.left ∙ sym n.left) i;
}
