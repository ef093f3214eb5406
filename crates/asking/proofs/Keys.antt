-- The key that a text begins with decides which question it is.
-- Assumes nothing.
use mathlib.Core.Path.{◌≡◌}
use mathlib.Core.Bool.{true, false}
use mathlib.Core.List.{List}
use Prim.Native.Nat.{ℕ, ◌-◌}
use lib.ListN.{length, take, drop}
use Rattle.text_keys.specs.Parts.{begins}
use Rattle.text_keys.proofs.Cuts.{to_the_end}
use Rattle.asking.specs.Questions.{pattern_key, mark_key, pattern_asked, mark_asked, whole_asked, question_of}

module _ (t : List ℕ) where
  pub pattern-key : true ≡ begins pattern_key t → pattern_asked (take (length t - 8) (drop 8 t)) ≡ question_of t
  unfolding question_of
  pattern-key e = rw (← e, to_the_end t 8)

  module _ (e : false ≡ begins pattern_key t) where
    pub mark-key : true ≡ begins mark_key t → mark_asked t ≡ question_of t
    unfolding question_of
    mark-key f = rw (← e, ← f)

    pub no_key : false ≡ begins mark_key t → whole_asked t ≡ question_of t
    unfolding question_of
    no_key f = rw (← e, ← f)
