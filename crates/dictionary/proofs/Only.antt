-- Nothing else meets a contract: two answers that tell the same are the same, and the bytes that a call leaves are one.
-- Assumes nothing.
use mathlib.Core.Path.{◌≡◌, sym, ◌∙◌}
use mathlib.Core.List.{List}
use Prim.Native.Nat.{ℕ}
use Rattle.listing.specs.Limits.{most_ports}
use Rattle.words.specs.Meaning.{numbered_told, outcome_told}
use Rattle.words.proofs.Once.{outcome-once, numbered-once}
use Rattle.dictionary_laws.specs.Calls.{dictionary_number_of, dictionary_pattern_of, dictionary_pattern_bytes, dictionary_next_of, dictionary_next_bytes}
use Rattle.dictionary_laws.specs.Calls.{number_to_rank_of, rank_to_number_of}
use Rattle.std.specs.declared.result.Result.{Result}
use Rattle.words.specs.declared.Refusal.{Refusal}

pub only-number : (p : List ℕ) (r s : Result ℕ Refusal) → numbered_told r ≡ dictionary_number_of most_ports p → numbered_told s ≡ dictionary_number_of most_ports p → r ≡ s
only-number p r s e f = numbered-once r s (e ∙ sym f)

pub only-numbered : (k : ℕ) (found : List ℕ) (r s : Result (Unit {0}) Refusal) (b c : List ℕ)
    → outcome_told r ≡ dictionary_pattern_of most_ports k found → b ≡ dictionary_pattern_bytes most_ports k found
    → outcome_told s ≡ dictionary_pattern_of most_ports k found → c ≡ dictionary_pattern_bytes most_ports k found → (r ≡ s) × (b ≡ c)
only-numbered k found r s b c e d f g = (outcome-once r s (e ∙ sym f), d ∙ sym g)

pub only_next : (p : List ℕ) (r s : Result (Unit {0}) Refusal) (b c : List ℕ)
    → outcome_told r ≡ dictionary_next_of most_ports p → b ≡ dictionary_next_bytes most_ports p
    → outcome_told s ≡ dictionary_next_of most_ports p → c ≡ dictionary_next_bytes most_ports p → (r ≡ s) × (b ≡ c)
only_next p r s b c e d f g = (outcome-once r s (e ∙ sym f), d ∙ sym g)

pub only-to-rank : (n k : ℕ) (r s : Result ℕ Refusal) → numbered_told r ≡ number_to_rank_of most_ports n k → numbered_told s ≡ number_to_rank_of most_ports n k → r ≡ s
only-to-rank n k r s e f = numbered-once r s (e ∙ sym f)

pub only-to-number : (n k : ℕ) (r s : Result ℕ Refusal) → numbered_told r ≡ rank_to_number_of most_ports n k → numbered_told s ≡ rank_to_number_of most_ports n k → r ≡ s
only-to-number n k r s e f = numbered-once r s (e ∙ sym f)
