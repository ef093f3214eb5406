-- Nothing else meets the reader's contract: two answers that tell the same are the same.
-- Assumes nothing.
use mathlib.Core.Path.{◌≡◌, sym, ◌∙◌}
use mathlib.Core.List.{List}
use Prim.Native.Nat.{ℕ}
use Rattle.listing.specs.Limits.{most_ports, largest64}
use Rattle.words.proofs.Once.{answer-once}
use Rattle.line_format.specs.Reading.{read_of}
use Rattle.line_reader.specs.Answers.{read_told}
use Rattle.std.specs.declared.result.Result.{Result}
use Rattle.words.specs.declared.Refusal.{Refusal}
use Rattle.words.specs.declared.Line.{Line}

-- two answers that tell the same
read-once : (r s : Result (Line × ℕ) Refusal) → read_told r ≡ read_told s → r ≡ s
read-once = answer-once (λ q. (q.0, q.1)) (λ a b e. e)

-- one answer
pub only-read-line : (text : List ℕ) (place : ℕ) (r s : Result (Line × ℕ) Refusal)
    → read_told r ≡ read_of largest64 most_ports text place → read_told s ≡ read_of largest64 most_ports text place → r ≡ s
only-read-line text place r s e f = read-once r s (e ∙ sym f)
