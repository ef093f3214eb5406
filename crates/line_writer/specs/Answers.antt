-- What the writer's answer tells: the paper's number of the refusal, or how many bytes were written. At the end, what its inner pieces answer.
-- Assumes nothing.
use Rattle.std.specs.Prelude.{ℕ, ◌+◌, ◌≡◌, List, ◌++◌, length, take}
use Rattle.words.specs.Told.{Told}
use Rattle.words.specs.Meaning.{answer_told}
use Rattle.line_writer.specs.declared.order_lines.Spelled.{Spelled}
use Rattle.std.specs.declared.result.Result.{Result}
use Rattle.words.specs.declared.Refusal.{Refusal}

-- the call
abbrev pub written_told : Result ℕ Refusal → Told ℕ
written_told r = answer_told (λ n. n) r

-- ---- inner pieces

-- the longest line that there is
abbrev pub longest_line : ℕ
longest_line = 47

-- s is spelled as t: the first bytes are t, and the length says how many they are
pub record Spells (s : Spelled) (t : List ℕ) : Type 0 where
  pub front : take s.len s.bytes ≡ t
  pub len : s.len ≡ length t

-- r is s with a part after it
pub record Grown (s : Spelled) (part : List ℕ) (r : Spelled) : Type 0 where
  pub front : take r.len r.bytes ≡ take s.len s.bytes ++ part
  pub len : r.len ≡ s.len + length part
