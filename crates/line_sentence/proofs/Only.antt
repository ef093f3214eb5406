-- Nothing else meets the contract of `refusal_sentence`: its answer is one, and the bytes that it leaves.
-- Assumes nothing.
use mathlib.Core.Path.{◌≡◌, sym, ◌∙◌}
use mathlib.Core.List.{List}
use Prim.Native.Nat.{ℕ}
use Rattle.line_writer.specs.Answers.{written_told}
use Rattle.line_writer.proofs.Only.{written_once}
use Rattle.line_sentence.specs.Sentences.{refusal_sentence_of, refusal_sentence_bytes}
use Rattle.std.specs.declared.result.Result.{Result}
use Rattle.words.specs.declared.Refusal.{Refusal}

pub only-refusal-sentence : (number place earlier : ℕ) (buf : List ℕ) (r s : Result ℕ Refusal) (b c : List ℕ)
    → written_told r ≡ refusal_sentence_of number place earlier buf → b ≡ refusal_sentence_bytes number place earlier buf
    → written_told s ≡ refusal_sentence_of number place earlier buf → c ≡ refusal_sentence_bytes number place earlier buf → (r ≡ s) × (b ≡ c)
only-refusal-sentence number place earlier buf r s b c e d f g = (written_once r s (e ∙ sym f), d ∙ sym g)
