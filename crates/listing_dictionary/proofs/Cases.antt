-- Facts that can be counted by hand.
-- Assumes nothing.
use mathlib.Core.Path.{◌≡◌, refl}
use mathlib.Core.List.{List, [], ◌∷◌, flat_map}
use Prim.Native.Nat.{ℕ}
use lib.ListN.{length}
use Rattle.listing.specs.Count.{count}
use Rattle.listing_dictionary.specs.Free.{ports, without, later}
use Rattle.listing_dictionary.specs.Completions.{ways, completions}
use Rattle.listing_dictionary.specs.Dictionary.{beginning, fillings, dictionary}
use Rattle.listing_dictionary.specs.Number.{worth, passed, number_from, number, chosen, within, numbered_from, numbered}

-- a panel of four jacks
abbrev four : ℕ → ℕ → ℕ → ℕ → List ℕ
four a b c d = a ∷ b ∷ c ∷ d ∷ []

-- the nine patterns of 4 ports
pub dictionary-4 : dictionary 4
    ≡ four 2 1 4 3 ∷ four 2 3 4 1 ∷ four 2 4 1 3 ∷ four 3 1 4 2 ∷ four 3 4 1 2 ∷ four 3 4 2 1 ∷ four 4 1 2 3 ∷ four 4 3 1 2 ∷ four 4 3 2 1 ∷ []
unfolding dictionary fillings beginning ports without flat_map
dictionary-4 = refl

pub length-5 : length (dictionary 5) ≡ 44
unfolding dictionary fillings beginning ports without flat_map
length-5 = refl

-- a number, and back
pub number-3421 : number 4 (four 3 4 2 1) ≡ 5
unfolding number number_from passed worth completions ways count later ports without
number-3421 = refl

pub numbered-5 : numbered 4 5 ≡ four 3 4 2 1
unfolding numbered numbered_from chosen within worth completions ways count later ports without
numbered-5 = refl
