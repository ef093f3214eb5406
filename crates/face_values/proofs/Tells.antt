-- The number and the words of what a call tells: the same under another name (`tells`), also of a call that leaves something (`tells-leaving`), and by the
-- case that a value is (`gives`).
-- Assumes nothing.
use mathlib.Core.Path.{◌≡◌, sym, ap, ◌∙◌}
use mathlib.Core.List.{List}
use Prim.Native.Nat.{ℕ}
use Rattle.words.specs.Told.{Told, accepted}
use Rattle.face_values.specs.Answers.{number_told, words_told}

-- a number and words are those of what a call tells
abbrev pub Tells : {A : Type 0} → (A → List ℕ) → Told A → ℕ → List ℕ → Type 0
Tells values t n w = (n ≡ number_told t) × (w ≡ words_told values t)

-- the number and the words of x are those of t, which is the same
pub tells : {A : Type 0} (values : A → List ℕ) {x t : Told A} {n : ℕ} {w : List ℕ} → x ≡ t → Tells values x n w → Tells values t n w
tells values e h = (h.0 ∙ ap number_told e, h.1 ∙ ap (words_told values) e)

-- the same of a call that also leaves something
pub tells-leaving : {A L : Type 0} (values : A → List ℕ) {x t : Told A} {n : ℕ} {w : List ℕ} → (x ≡ t) × L → Tells values x n w
    → (n ≡ number_told t) × ((w ≡ words_told values t) × L)
tells-leaving values e h = let t = tells values e.0 h in (t.0, (t.1, e.1))

-- what is given is a case: then it is given by that case
pub gives : {A : Type 0} (values : A → List ℕ) {x case : A} {n : ℕ} {w : List ℕ} → x ≡ case → Tells values (accepted case) n w → Tells values (accepted x) n w
gives values e h = tells values (ap accepted (sym e)) h
