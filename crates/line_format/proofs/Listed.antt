-- Numbers with commas between them: the numbers of their text are those numbers (`numbers-of-listed`), and a text that is such numbers is their text
-- (`listed-of-numbers`). No newline stands in them.
-- Assumes nothing.
use mathlib.Core.Path.{◌≡◌, refl, ap, ◌∙◌, subst}
use mathlib.Core.List.{List, [], ◌∷◌, ◌++◌}
use mathlib.Core.Option.{none, some, map, bind, bind-eq-some_iff, map-eq-some_iff}
use Prim.Native.Nat.{ℕ, zero, suc, ◌≤◌}
use native.Mathlib.Omega.{arith}
use Rattle.text_numbers.specs.Decimal.{digits_of, number_up_to}
use Rattle.text_numbers.proofs.Limits.{number-up-to, digits-up-to}
use Rattle.text_keys.specs.Parts.{newline, comma, first_of, cut}
use Rattle.text_keys.proofs.Cuts.{digits-clear, first-append, cut-joined, cut_parts}
use Rattle.line_format.specs.Format.{Numbers, AllUpTo, listed}
use Rattle.line_format.specs.Reading.{number_before, numbers_in}

-- ---- the first of them

module _ (most : ℕ) where
  -- a number, a comma and any text
  pub before-joined : (n : ℕ) (t : List ℕ) → n ≤ most → number_before most (digits_of n ++ (comma ∷ t)) ≡ some (n, t)
  unfolding number_before bind
  before-joined n t h =
      ap (λ o. bind o (λ p. map (λ m. (m, p.rest)) (number_up_to most p.front))) (cut-joined comma (digits_of n) t (digits-clear comma n (omega arith)))
      ∙ ap (map (λ m. (m, t))) (number-up-to most n h)

  -- a text that begins with a number and a comma is that number, a comma and the rest
  pub before-parts : (t : List ℕ) (b : ℕ × List ℕ) → number_before most t ≡ some b → (t ≡ digits_of b.0 ++ (comma ∷ b.1)) × (b.0 ≤ most)
  unfolding number_before
  before-parts t b e =
      let c = (bind-eq-some_iff {B = ℕ × List ℕ} (cut comma t) (λ p. map (λ m. (m, p.rest)) (number_up_to most p.front))).0 e in
      let p = c.0 in
      let m = (map-eq-some_iff {B = ℕ × List ℕ} (λ m. (m, p.rest)) (number_up_to most p.front)).0 c.2 in
      let d = digits-up-to most p.front m.0 m.1 in
      let number : m.0 ≡ b.0 = ap (λ q. q.0) m.2 in
      let rest : p.rest ≡ b.1 = ap (λ q. q.1) m.2 in (
        (cut_parts comma t p c.1).whole ∙ ap (λ s. s ++ (comma ∷ p.rest)) d.0 ∙ ap (λ n. digits_of n ++ (comma ∷ p.rest)) number
            ∙ ap (λ s. digits_of b.0 ++ (comma ∷ s)) rest,
        omega (arith, d.1),
      )

  -- ---- all of them

  -- the numbers of the text of numbers are those numbers
  pub numbers-of-listed : (k : ℕ) (x : Numbers k) → AllUpTo most k x → numbers_in most k (listed k x) ≡ some x
  unfolding numbers_in listed bind
  numbers-of-listed zero n h = number-up-to most n h
  numbers-of-listed (suc k) x h =
      ap (λ o. bind o (λ b. map (λ y. (b.0, y)) (numbers_in most k b.1))) (before-joined x.0 (listed k x.1) h.0)
      ∙ ap (map (λ y. (x.0, y))) (numbers-of-listed k x.1 h.1)

  -- a text that is numbers is the text of those numbers, and none of them is too large
  pub listed-of-numbers : (k : ℕ) (t : List ℕ) (x : Numbers k) → numbers_in most k t ≡ some x → (t ≡ listed k x) × AllUpTo most k x
  unfolding numbers_in listed
  listed-of-numbers zero t n e = digits-up-to most t n e
  listed-of-numbers (suc k) t x e =
      let c = (bind-eq-some_iff {B = Numbers (suc k)} (number_before most t) (λ b. map (λ y. (b.0, y)) (numbers_in most k b.1))).0 e in
      let b = c.0 in
      let m = (map-eq-some_iff {B = Numbers (suc k)} (λ y. (b.0, y)) (numbers_in most k b.1)).0 c.2 in
      let first = before-parts t b c.1 in
      let rest = listed-of-numbers k b.1 m.0 m.1 in
      let is : (b.0, m.0) ≡ x = m.2 in
      subst (λ y. (t ≡ listed (suc k) y) × AllUpTo most (suc k) y) is
      (first.0 ∙ ap (λ s. digits_of b.0 ++ (comma ∷ s)) rest.0, (first.1, rest.1))

-- ---- bytes that are not there

-- no newline is in the text of numbers with commas
pub listed-clear : (k : ℕ) (x : Numbers k) → first_of newline (listed k x) ≡ none
unfolding listed first_of
listed-clear zero n = digits-clear newline n (omega arith)
listed-clear (suc k) x =
    first-append newline (digits_of x.0) (comma ∷ listed k x.1) (digits-clear newline x.0 (omega arith))
    (first-append newline (comma ∷ []) (listed k x.1) refl (listed-clear k x.1))
