-- The key of a line decides by what its pattern is found.
-- Assumes nothing.
use mathlib.Core.Path.{◌≡◌}
use mathlib.Core.Bool.{true, false}
use mathlib.Core.List.{List}
use Prim.Native.Nat.{ℕ, ◌-◌}
use lib.ListN.{length, take, drop}
use Rattle.listing.specs.Listing.{at}
use Rattle.listing_dictionary.specs.Dictionary.{in_dictionary}
use Rattle.words.specs.Told.{refused, nowhere}
use Rattle.text_keys.specs.Parts.{begins}
use Rattle.text_keys.proofs.Cuts.{to_the_end}
use Rattle.translating.specs.Names.{rank_key, number_key, pattern_key}
use Rattle.translating_find.specs.Pieces.{in_order, in_entries, pattern_of}

module _ (n : ℕ) (t : List ℕ) where
  pub rank-key : true ≡ begins rank_key t → in_order (at n) n (take (length t - 5) (drop 5 t)) ≡ pattern_of n t
  unfolding pattern_of
  rank-key e = rw (← e, to_the_end t 5)

  module _ (e : false ≡ begins rank_key t) where
    pub number-key : true ≡ begins number_key t → in_order (in_dictionary n) n (take (length t - 7) (drop 7 t)) ≡ pattern_of n t
    unfolding pattern_of
    number-key f = rw (← e, ← f, to_the_end t 7)

    module _ (f : false ≡ begins number_key t) where
      pub pattern-key : true ≡ begins pattern_key t → in_entries n (take (length t - 8) (drop 8 t)) ≡ pattern_of n t
      unfolding pattern_of
      pattern-key g = rw (← e, ← f, ← g, to_the_end t 8)

      pub no_key : false ≡ begins pattern_key t → refused 7 nowhere ≡ pattern_of n t
      unfolding pattern_of
      no_key g = rw (← e, ← f, ← g)
