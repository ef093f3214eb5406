-- Nothing else meets the writer's contract: two answers that tell the same are the same, and the bytes that the call leaves are one.
-- Assumes nothing.
use mathlib.Core.Path.{◌≡◌, sym, ◌∙◌}
use mathlib.Core.List.{List}
use Prim.Native.Nat.{ℕ}
use Rattle.listing.specs.Limits.{most_ports}
use Rattle.words.specs.declared.Line.{Line}
use Rattle.words.proofs.Once.{answer-once}
use Rattle.line_format.specs.Calls.{write_of, write_bytes}
use Rattle.line_writer.specs.Answers.{written_told}
use Rattle.std.specs.declared.result.Result.{Result}
use Rattle.words.specs.declared.Refusal.{Refusal}

-- two answers that tell the same
pub written_once : (r s : Result ℕ Refusal) → written_told r ≡ written_told s → r ≡ s
written_once = answer-once (λ n. n) (λ a b e. e)

-- one answer and one list of bytes
pub only-write-line : (l : Line) (buf : List ℕ) (r s : Result ℕ Refusal) (b c : List ℕ)
    → written_told r ≡ write_of most_ports l buf → b ≡ write_bytes most_ports l buf
    → written_told s ≡ write_of most_ports l buf → c ≡ write_bytes most_ports l buf → (r ≡ s) × (b ≡ c)
only-write-line l buf r s b c e d f g = (written_once r s (e ∙ sym f), d ∙ sym g)
