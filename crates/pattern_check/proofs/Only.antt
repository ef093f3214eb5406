-- Nothing else meets the check's contract: two answers that tell the same are the same.
-- Assumes nothing.
use mathlib.Core.Path.{◌≡◌, sym, ◌∙◌}
use mathlib.Core.Bool.{Bool}
use mathlib.Core.List.{List}
use Prim.Native.Nat.{ℕ}
use Rattle.words.specs.Meaning.{outcome_told}
use Rattle.listing.specs.Limits.{most_ports}
use Rattle.words.proofs.Once.{outcome-once}
use Rattle.pattern_check.specs.Calls.{check_as}
use Rattle.std.specs.declared.result.Result.{Result}
use Rattle.words.specs.declared.Refusal.{Refusal}

-- the check of a pattern, and of a panel
pub only-check : (pattern : Bool) (p : List ℕ) (r s : Result (Unit {0}) Refusal)
    → outcome_told r ≡ check_as pattern most_ports p → outcome_told s ≡ check_as pattern most_ports p → r ≡ s
only-check pattern p r s e f = outcome-once r s (e ∙ sym f)
