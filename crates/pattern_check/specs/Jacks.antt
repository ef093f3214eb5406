-- Both jacks of a repeated port (request 7: 'the jack at fault and, for refusal 4, the jack of the earlier equal entry; for other refusals the second number
-- is 0').
-- Assumes nothing.
use Rattle.std.specs.Prelude.{ℕ, ◌≤◌, ◌<◌, ◌≡◌, ◌≢◌, List, length}
use Rattle.listing.specs.Pattern.{entry}
use Rattle.words.specs.Told.{Spot, nowhere, at_jack, at_jacks, at_line, at_bench, earlier_number}

-- jack i is before jack j and holds the same port, and no other jack before j does
pub record Equal (p : List ℕ) (j i : ℕ) : Type 0 where
  pub least : 1 ≤ i
  pub before : i < j
  pub most : j ≤ length p
  pub same : entry p i ≡ entry p j
  pub only : (a : ℕ) → 1 ≤ a → a < j → entry p a ≡ entry p j → a ≡ i

-- a place that names both
abbrev pub BothAt : List ℕ → Spot → Type 0
BothAt p nowhere = ⊥
BothAt p (at_jack j) = ⊥
BothAt p (at_jacks j i) = Equal p j i
BothAt p (at_line l) = ⊥
BothAt p (at_bench b) = ⊥

-- what refusal k of p at a place has as its second number: of 4 the place names both jacks, of any other the number is 0
pub record Second (p : List ℕ) (k : ℕ) (s : Spot) : Type 0 where
  pub both : k ≡ 4 → BothAt p s
  pub other : k ≢ 4 → earlier_number s ≡ 0
