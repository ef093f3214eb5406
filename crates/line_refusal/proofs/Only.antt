-- Nothing else meets the contract of `refusal_words`: its answer is one, and the bytes that it leaves.
-- Assumes nothing.
use mathlib.Core.Path.{◌≡◌, sym, ◌∙◌}
use mathlib.Core.List.{List}
use Prim.Native.Nat.{ℕ}
use Rattle.line_writer.specs.Answers.{written_told}
use Rattle.line_writer.proofs.Only.{written_once}
use Rattle.line_refusal.specs.Words.{refusal_words_of, refusal_words_bytes}
use Rattle.std.specs.declared.result.Result.{Result}
use Rattle.words.specs.declared.Refusal.{Refusal}

pub only-refusal-words : (number : ℕ) (buf : List ℕ) (r s : Result ℕ Refusal) (b c : List ℕ)
    → written_told r ≡ refusal_words_of number buf → b ≡ refusal_words_bytes number buf
    → written_told s ≡ refusal_words_of number buf → c ≡ refusal_words_bytes number buf → (r ≡ s) × (b ≡ c)
only-refusal-words number buf r s b c e d f g = (written_once r s (e ∙ sym f), d ∙ sym g)
