-- Nothing else meets the calls' contracts.
-- Assumes nothing.
use mathlib.Core.Path.{◌≡◌, sym, ◌∙◌}
use mathlib.Core.Bool.{Bool}
use mathlib.Core.List.{List}
use Prim.Native.Nat.{ℕ}
use Rattle.text_keys.specs.Parts.{first_of, begins}
use Rattle.text_keys.specs.Answers.{found_is}
use Rattle.std.specs.declared.option.Option.{Option}
use Rattle.words.proofs.Once.{option-once}

-- two answers that say the same place are the same
found-once : (r s : Option ℕ) → found_is r ≡ found_is s → r ≡ s
found-once = option-once

-- one answer meets `find`'s contract
pub only-find : (b : ℕ) (t : List ℕ) (r s : Option ℕ) → found_is r ≡ first_of b t → found_is s ≡ first_of b t → r ≡ s
only-find b t r s e f = found-once r s (e ∙ sym f)

-- one meets `has_key`'s
pub only-has-key : (key t : List ℕ) (r s : Bool) → r ≡ begins key t → s ≡ begins key t → r ≡ s
only-has-key key t r s e f = e ∙ sym f
