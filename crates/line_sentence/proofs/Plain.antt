-- Each byte of a sentence is a printed character, with no newline and no zero byte (`sentence-plain`), whatever numbers it has.
-- Assumes nothing.
use mathlib.Core.Path.{◌≡◌, refl, sym}
use mathlib.Core.Bool.{Bool, true, false, ◌&&◌, true≢false}
use mathlib.Core.List.{List, [], ◌∷◌, ◌++◌}
use Prim.Native.Nat.{ℕ, ◌%◌, ◌/◌, ◌<◌}
use native.Mathlib.Nat.{mod-lt}
use native.Mathlib.Omega.{arith}
use lib.Dec.{eqb}
use borrow.Author.Tests.{le-leb}
use Rattle.listing.proofs.Numbers.{of_test}
use Rattle.words.specs.Shape.{within}
use Rattle.text_numbers.specs.Decimal.{glyph, digits_of}
use Rattle.text_numbers.proofs.Digits.{digits-one, digits_more, by-tens}
use Rattle.line_refusal.specs.Words.{quoted, words_of}
use Rattle.line_refusal.proofs.Words.{each, printed, words-plain}
use Rattle.line_sentence.specs.Sentences.{place_name, placed, where_text, other_text, sentence_of}

-- a text of printed characters
abbrev Plain : List ℕ → Type 0
Plain t = each printed t ≡ true

-- two such texts, the one after the other
plain-both : (t u : List ℕ) → Plain t → Plain u → Plain (t ++ u)
plain-both [] u h k = k
plain-both (b ∷ t) u h k = and (printed b) (each printed t) h (plain-both t u)
  where
    and : (p q : Bool) → (p && q) ≡ true → (q ≡ true → Plain u → Plain (t ++ u)) → (p && each printed (t ++ u)) ≡ true
    and true q e more = more e k
    and false q e more = absurd (true≢false (sym e))

-- the byte of a digit
plain-digit : (d : ℕ) → d < 10 → Plain (glyph d ∷ [])
plain-digit d h = rw (le-leb 32 (glyph d) (omega arith), le-leb (glyph d) 126 (omega arith)) refl

-- a number
plain-number : (n : ℕ) → Plain (digits_of n)
plain-number =
    by-tens (λ n. Plain (digits_of n))
    (λ n h. rw (digits-one n h) (plain-digit n h))
    (λ n h e. rw (digits_more n h) (plain-both (digits_of (n / 10)) _ e (plain-digit (n % 10) (mod-lt n (omega arith)))))

-- where the fault is
plain-where : (number place : ℕ) → Plain (where_text number place)
unfolding where_text quoted
plain-where number place =
    let name = place_name number in
    let named = plain-both name (digits_of place) (of_test Plain (within 3 5 number) (quoted "jack ") (quoted "line ") refl refl) (plain-number place) in
    let all = plain-both (name ++ digits_of place) (quoted ": ") named refl in
    of_test Plain (eqb place 0) [] _ refl (of_test Plain (within 1 17 number) (placed name place) [] all refl)

-- where the other one is
plain_other : (number earlier : ℕ) → Plain (other_text number earlier)
unfolding other_text quoted
plain_other number earlier =
    let all = plain-both (quoted ", at jack ") (digits_of earlier) refl (plain-number earlier) in
    of_test Plain (eqb earlier 0) [] _ refl (of_test Plain (eqb number 4) _ [] all refl)

-- and the whole sentence
pub sentence-plain : (number place earlier : ℕ) → each printed (sentence_of number place earlier) ≡ true
unfolding sentence_of
sentence-plain number place earlier =
    plain-both (where_text number place ++ words_of number) (other_text number earlier)
    (plain-both (where_text number place) (words_of number) (plain-where number place) (words-plain number))
    (plain_other number earlier)
