-- The parts of a sentence case by case, as the code asks for them: where the fault is (`where-`), and where the other one is (`other-`).
-- Assumes nothing.
use mathlib.Core.Path.{◌≡◌, refl}
use mathlib.Core.Logic.{◌≢◌, ◌⊎◌}
use mathlib.Core.List.{[], ◌++◌}
use Prim.Native.Nat.{ℕ, ◌≤◌, ◌<◌}
use native.Mathlib.Omega.{arith}
use borrow.Author.Tests.{eq-eqb, ne_eqb}
use Rattle.listing.proofs.Numbers.{either}
use Rattle.words.proofs.Shape.{within-true, within-below, within-above}
use Rattle.text_numbers.specs.Decimal.{digits_of}
use Rattle.line_refusal.specs.Words.{quoted}
use Rattle.line_sentence.specs.Sentences.{placed, where_text, other_text}

-- ---- where the fault is

-- no place is said
pub where-nowhere : (number place : ℕ) → place ≡ 0 → [] ≡ where_text number place
unfolding where_text
where-nowhere number place e = rw (eq-eqb place 0 e) refl

module _ (number place : ℕ) (said : place ≢ 0) where
  -- 3, 4 and 5
  pub where-jack : 3 ≤ number → number < 6 → placed (quoted "jack ") place ≡ where_text number place
  unfolding where_text
  where-jack h k = rw (ne_eqb place 0 said, within-true 1 17 number (omega arith) (omega arith), within-true 3 5 number h (omega arith)) refl

  -- any other refusal
  pub where-line : 1 ≤ number → (number < 3) ⊎ ((6 ≤ number) × (number < 18)) → placed (quoted "line ") place ≡ where_text number place
  unfolding where_text
  where-line h other =
      rw (
        ne_eqb place 0 said,
        either other (λ k. within-true 1 17 number h (omega arith)) (λ k. within-true 1 17 number h (omega arith)),
        either other (within-below 3 5 number) (λ k. within-above 3 5 number k.0),
      ) refl

  -- accepted, or a number that no refusal has
  pub where-none : (number < 1) ⊎ (18 ≤ number) → [] ≡ where_text number place
  unfolding where_text
  where-none h = rw (ne_eqb place 0 said, either h (within-below 1 17 number) (within-above 1 17 number)) refl

-- ---- where the other one is

pub other-nowhere : (number earlier : ℕ) → earlier ≡ 0 → [] ≡ other_text number earlier
unfolding other_text
other-nowhere number earlier e = rw (eq-eqb earlier 0 e) refl

pub other-jack : (number earlier : ℕ) → earlier ≢ 0 → number ≡ 4 → (quoted ", at jack " ++ digits_of earlier) ≡ other_text number earlier
unfolding other_text
other-jack number earlier said e = rw (ne_eqb earlier 0 said, eq-eqb number 4 e) refl

pub other_none : (number earlier : ℕ) → earlier ≢ 0 → number ≢ 4 → [] ≡ other_text number earlier
unfolding other_text
other_none number earlier said e = rw (ne_eqb earlier 0 said, ne_eqb number 4 e) refl
