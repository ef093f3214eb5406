-- Refusals beside their sentences, as a caller has them: a number and the first two words of an answer; one table and one theorem.
-- Assumes nothing.
use mathlib.Core.Path.{◌≡◌, refl}
use mathlib.Core.List.{List, [], ◌∷◌, map}
use Prim.Native.Nat.{ℕ}
use Prim.Native.String.{String}
use Rattle.text_numbers.specs.Decimal.{spell, digits_of}
use Rattle.line_refusal.specs.Words.{quoted, words_of}
use Rattle.line_sentence.specs.Sentences.{where_text, other_text, sentence_of}

-- a refusal beside its sentence
pub record Case : Type 0 where
  pub number : ℕ
  pub place : ℕ
  pub earlier : ℕ
  pub text : String

-- the first is that of (2,3,4,5,3); the last five have words that no refused call gives
abbrev pub sentences : List Case
sentences =
    record { number = 4; place = 5; earlier = 2; text = "jack 5: entry equal to an earlier one, at jack 2" }
    ∷ record { number = 3; place = 2; earlier = 0; text = "jack 2: entry outside the panel's ports" }
    ∷ record { number = 5; place = 20; earlier = 0; text = "jack 20: entry equal to its own jack" }
    ∷ record { number = 10; place = 7; earlier = 0; text = "line 7: run too long" }
    ∷ record { number = 1; place = 1; earlier = 0; text = "line 1: ports or length not 2 to 20" }
    ∷ record { number = 1; place = 0; earlier = 0; text = "ports or length not 2 to 20" }
    ∷ record { number = 15; place = 0; earlier = 0; text = "state unfit" }
    ∷ record { number = 0; place = 0; earlier = 0; text = "accepted" }
    ∷ record { number = 4; place = 0; earlier = 0; text = "entry equal to an earlier one" }
    ∷ record { number = 3; place = 5; earlier = 2; text = "jack 5: entry outside the panel's ports" }
    ∷ record { number = 17; place = 9; earlier = 9; text = "line 9: jack or port off the panel, or order out of shape" }
    ∷ record { number = 0; place = 5; earlier = 2; text = "accepted" }
    ∷ record { number = 18; place = 5; earlier = 2; text = "no refusal has this number" }
    ∷ []

-- each refusal has the sentence that stands beside it
pub sentences-hold : map (λ c. sentence_of c.number c.place c.earlier) sentences ≡ map (λ c. quoted c.text) sentences
unfolding sentence_of where_text other_text words_of quoted digits_of spell
sentences-hold = refl
