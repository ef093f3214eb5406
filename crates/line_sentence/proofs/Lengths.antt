-- How long a sentence is: its parts (`where-longest`, `other-longest`), at most 86 bytes in all (`sentence-longest`), and that one has so many (`longest-met`).
-- Assumes nothing.
use mathlib.Core.Path.{◌≡◌, refl}
use mathlib.Core.Logic.{◌≢◌}
use mathlib.Core.Bool.{Bool, cond}
use mathlib.Core.List.{List, [], ◌++◌}
use Prim.Native.Nat.{ℕ, ◌≤◌}
use native.Mathlib.Omega.{arith}
use lib.Dec.{eqb}
use lib.ListN.{length, length-append}
use borrow.Author.Tests.{ne_eqb}
use Rattle.listing.specs.Limits.{largest64}
use Rattle.listing.proofs.Numbers.{either, of_test, same?}
use Rattle.words.specs.Shape.{within}
use Rattle.text_numbers.specs.Decimal.{digits_of}
use Rattle.text_numbers.proofs.Lengths.{digits-64, digits-largest}
use Rattle.line_refusal.specs.Words.{quoted, words_of}
use Rattle.line_refusal.proofs.Words.{words-longest}
use Rattle.line_sentence.specs.Sentences.{place_name, placed, where_text, other_text, sentence_of, most_sentence}

-- of two texts, each at most n long
of_two : (t : Bool) (x y : List ℕ) (n : ℕ) → length x ≤ n → length y ≤ n → length (cond t x y) ≤ n
of_two t x y n = of_test (λ z. length z ≤ n) t x y

-- a name has 5 bytes
name-length : (number : ℕ) → length (place_name number) ≤ 5
unfolding quoted
name-length number = of_two (within 3 5 number) (quoted "jack ") (quoted "line ") 5 (omega arith) (omega arith)

-- where the fault is takes at most 27
pub where-longest : (number place : ℕ) → place ≤ largest64 → length (where_text number place) ≤ 27
unfolding where_text quoted
where-longest number place h =
    let name = place_name number in
    let long : length (placed name place) ≤ 27 =
    omega (arith, length-append (name ++ digits_of place) (quoted ": "), length-append name (digits_of place), name-length number, digits-64 place h) in
    of_two (eqb place 0) [] _ 27 (omega arith) (of_two (within 1 17 number) (placed name place) [] 27 long (omega arith))

-- where the other one is takes at most 30
pub other-longest : (number earlier : ℕ) → earlier ≤ largest64 → length (other_text number earlier) ≤ 30
unfolding other_text quoted
other-longest number earlier h =
    let long : length (quoted ", at jack " ++ digits_of earlier) ≤ 30 =
    omega (arith, length-append (quoted ", at jack ") (digits_of earlier), digits-64 earlier h) in
    of_two (eqb earlier 0) [] _ 30 (omega arith) (of_two (eqb number 4) _ [] 30 long (omega arith))

-- and nothing unless the number is 4
other-empty : (number earlier : ℕ) → number ≢ 4 → length (other_text number earlier) ≤ 0
unfolding other_text
other-empty number earlier ne = of_two (eqb earlier 0) [] _ 0 (omega arith) (rw (ne_eqb number 4 ne) (omega arith))

-- the words of 4 have 29 bytes
words-four : (number : ℕ) → number ≡ 4 → length (words_of number) ≡ 29
unfolding words_of quoted
words-four number e = rw e refl

-- no sentence is longer than 86 bytes
pub sentence-longest : (number place earlier : ℕ) → place ≤ largest64 → earlier ≤ largest64
    → length (sentence_of number place earlier) ≤ most_sentence
unfolding sentence_of
sentence-longest number place earlier h k =
    let all = length-append (where_text number place ++ words_of number) (other_text number earlier) in
    let front = length-append (where_text number place) (words_of number) in
    either (same? number 4)
    (λ e. omega (arith, all, front, where-longest number place h, words-four number e, other-longest number earlier k))
    (λ e. omega (arith, all, front, where-longest number place h, words-longest number, other-empty number earlier e))

-- and that of 4 with two numbers of 20 digits has so many
pub longest-met : length (sentence_of 4 largest64 largest64) ≡ most_sentence
unfolding sentence_of where_text other_text words_of quoted
longest-met = rw digits-largest refl
