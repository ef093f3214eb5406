-- Nothing else meets a contract: two answers that tell the same are the same, and the bytes that a call leaves are one.
-- Assumes nothing.
use mathlib.Core.Path.{◌≡◌, sym, ◌∙◌}
use mathlib.Core.Bool.{Bool}
use mathlib.Core.List.{List}
use Prim.Native.Nat.{ℕ}
use lib.IntN.{ℤ}
use Rattle.listing.specs.Limits.{most_ports}
use Rattle.words.specs.Meaning.{move_of, numbered_told, outcome_told}
use Rattle.words.specs.declared.Refusal.{Refusal}
use Rattle.words.proofs.Once.{answer-once, move-once, outcome-once, numbered-once}
use Rattle.patterns.specs.Calls.{count_of, rank_of, unrank_of, unrank_bytes, beside_of, beside_bytes, step_of}
use Rattle.patterns.specs.Answers.{moved_told}
use Rattle.std.specs.declared.result.Result.{Result}
use Rattle.words.specs.declared.Move.{Move}

-- ---- answers that tell the same

moved-once : (r s : Result Move Refusal) → moved_told r ≡ moved_told s → r ≡ s
moved-once = answer-once move_of move-once

-- ---- one answer, and one list of bytes, to each call

pub only-count : (n : ℕ) (r s : Result ℕ Refusal) → numbered_told r ≡ count_of most_ports n → numbered_told s ≡ count_of most_ports n → r ≡ s
only-count n r s e f = numbered-once r s (e ∙ sym f)

pub only-rank : (p : List ℕ) (r s : Result ℕ Refusal) → numbered_told r ≡ rank_of most_ports p → numbered_told s ≡ rank_of most_ports p → r ≡ s
only-rank p r s e f = numbered-once r s (e ∙ sym f)

pub only-unrank : (k : ℕ) (found : List ℕ) (r s : Result (Unit {0}) Refusal) (b c : List ℕ)
    → outcome_told r ≡ unrank_of most_ports k found → b ≡ unrank_bytes most_ports k found
    → outcome_told s ≡ unrank_of most_ports k found → c ≡ unrank_bytes most_ports k found → (r ≡ s) × (b ≡ c)
only-unrank k found r s b c e d f g = (outcome-once r s (e ∙ sym f), d ∙ sym g)

-- next and previous
pub only-beside : (back : Bool) (p : List ℕ) (r s : Result Move Refusal) (b c : List ℕ)
    → moved_told r ≡ beside_of most_ports back p → b ≡ beside_bytes most_ports back p
    → moved_told s ≡ beside_of most_ports back p → c ≡ beside_bytes most_ports back p → (r ≡ s) × (b ≡ c)
only-beside back p r s b c e d f g = (moved-once r s (e ∙ sym f), d ∙ sym g)

pub only_step : (n k : ℕ) (z : ℤ) (r s : Result ℕ Refusal) → numbered_told r ≡ step_of most_ports n k z → numbered_told s ≡ step_of most_ports n k z → r ≡ s
only_step n k z r s e f = numbered-once r s (e ∙ sym f)
