-- Texts, worked out: what is printed of 54231, and the words of each refusal (docs/RANKS.md shows them).
-- Assumes nothing.
use mathlib.Core.Path.{◌≡◌, refl}
use mathlib.Core.List.{List, [], ◌∷◌, ◌++◌, map}
use Prim.Native.Nat.{ℕ}
use Prim.Native.String.{String}
use Rattle.listing.specs.Numbers.{odd, is, trade, raise, lower}
use Rattle.listing.specs.Pattern.{tabulate}
use Rattle.listing.specs.Count.{count}
use Rattle.listing.specs.Steps.{un_a, un_b, letter}
use Rattle.listing.specs.Rank.{place, rank}
use Rattle.listing.specs.Reading.{passed}
use Rattle.listing_levels.specs.Levels.{levels}
use Rattle.text_numbers.specs.Decimal.{spell, digits_of}
use Rattle.line_refusal.specs.Words.{quoted}
use Rattle.explaining.specs.Text.{ended, level_text, levels_text, rank_text, why_text, wrong_text}

-- 5,4,2,3,1
pub why-54231 : why_text (5 ∷ 4 ∷ 2 ∷ 3 ∷ 1 ∷ [])
    ≡ (quoted "level=5 last=1 by=B read=backward over=9" ++ ended)
    ++ ((quoted "level=3 last=2 by=A read=forward over=0" ++ ended) ++ (quoted "rank=9" ++ ended))
unfolding why_text levels_text level_text rank_text levels letter passed count rank place un_a un_b tabulate odd is trade raise lower quoted digits_of spell
why-54231 = refl

-- the words of a refusal, by its number k, its place j, the earlier jack i and what they name beside them
pub record Case : Type 0 where
  pub k : ℕ
  pub j : ℕ
  pub i : ℕ
  pub x : ℕ
  pub text : String

abbrev pub wrongs : List Case
wrongs =
    record { k = 11; j = 0; i = 0; x = 0; text = "the newline is missing or not last" }
    ∷ record { k = 8; j = 0; i = 0; x = 3; text = "jack 3: not a plain decimal number of at most 64 bits" }
    ∷ record { k = 1; j = 0; i = 0; x = 1; text = "a pattern has 2 to 20 entries" }
    ∷ record { k = 3; j = 2; i = 0; x = 5; text = "jack 2: its entry is none of the ports 1 to 5" }
    ∷ record { k = 4; j = 3; i = 1; x = 2; text = "jack 3: port 2 is already at jack 1" }
    ∷ record { k = 5; j = 3; i = 0; x = 5; text = "jack 3: port 3 has the jack's own number" }
    ∷ []

pub wrongs-hold : map (λ c. wrong_text c.k c.j c.i c.x) wrongs ≡ map (λ c. quoted c.text) wrongs
unfolding wrong_text quoted digits_of spell
wrongs-hold = refl
