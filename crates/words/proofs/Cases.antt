-- The numbers that the paper gives: the refusals in the order of their numbers, one table and one theorem; and 2^63.
-- Assumes nothing.
use mathlib.Core.Path.{◌≡◌, refl}
use mathlib.Core.List.{List, [], ◌∷◌, map}
use Prim.Native.Nat.{ℕ, ◌^◌}
use Rattle.words.specs.Meaning.{number_of}
use Rattle.words.specs.Signs.{signed_limit}
use Rattle.words.specs.declared.Reason.{Reason}
use Rattle.words.specs.declared.Reason.TheVariants.{Ports, Room, Outside, Repeated, OwnJack, Rank, Key, Number, Legs, Run, Ended, NoMark, MarkStands, Kind, Unfit, Errors, Shape}

-- a reason beside its number
pub record Case : Type 0 where
  pub reason : Reason
  pub number : ℕ

-- 'Refusal numbers'
abbrev pub cases : List Case
cases =
    record { reason = Ports; number = 1 }
    ∷ record { reason = Room; number = 2 }
    ∷ record { reason = Outside; number = 3 }
    ∷ record { reason = Repeated; number = 4 }
    ∷ record { reason = OwnJack; number = 5 }
    ∷ record { reason = Rank; number = 6 }
    ∷ record { reason = Key; number = 7 }
    ∷ record { reason = Number; number = 8 }
    ∷ record { reason = Legs; number = 9 }
    ∷ record { reason = Run; number = 10 }
    ∷ record { reason = Ended; number = 11 }
    ∷ record { reason = NoMark; number = 12 }
    ∷ record { reason = MarkStands; number = 13 }
    ∷ record { reason = Kind; number = 14 }
    ∷ record { reason = Unfit; number = 15 }
    ∷ record { reason = Errors; number = 16 }
    ∷ record { reason = Shape; number = 17 }
    ∷ []

-- each reason is told by the number that stands beside it
pub cases-hold : map (λ c. number_of c.reason) cases ≡ map (λ c. c.number) cases
cases-hold = refl

-- the lowest signed number of 64 bits is behind by 2^63
pub signed-limit : signed_limit ≡ 2 ^ 63
signed-limit = refl
