-- Whether the places of a plan are within the rules, as a test (the paper, 'Refusal numbers', 15: 'ports, legs, start or run outside the rules' and 'unused
-- places not 0'). The sentence is `Ruled`; proofs/Rules has that the test tells it.
-- Assumes nothing.
use Rattle.std.specs.Prelude.{ℕ, zero, suc, ◌≤◌, ◌<◌, ◌≡◌, Bool, true, ◌&&◌, List, [], ◌∷◌, eqb, leb, ltb, pos, length, get_or}
use Rattle.listing.specs.Count.{count}
use Rattle.promise.specs.Plan.{Leg}
use Rattle.words.specs.declared.Leg as words
use Rattle.plan_rules.specs.Planned.{Limits, Fits}
use Rattle.plan_rules.specs.Places.{legs_held, planned_of}
use Rattle.plan_rules.specs.declared.Plan.{Plan}

-- a leg of the model
abbrev pub leg_is : words.Leg → Leg
leg_is l = record { start = l.start; back = l.back; run = l.run }

-- the legs of a plan, and all its places, each as a leg
abbrev pub legs_of : Plan → List Leg
legs_of p = legs_held p.legs p.starts p.runs

abbrev pub places : Plan → List Leg
places p = legs_held (length p.starts) p.starts p.runs

-- ---- the sentence

-- the places of l from place k on hold z
abbrev pub Beyond : {A : Type 0} → ℕ → A → List A → Type 0
Beyond k z l = (i : ℕ) → k ≤ i → i < length l → get_or l i z ≡ z

-- a plan within the rules: one that fits, with a place for each leg, and the places beyond its legs are 0
pub record Ruled (most : Limits) (p : Plan) : Type 0 where
  pub fits : Fits most (planned_of p)
  pub legs : p.legs ≤ most.legs
  pub starts : Beyond p.legs 0 p.starts
  pub runs : Beyond p.legs (pos 0) p.runs

-- ---- the test

-- a leg among `size` ranks: its start is below, '|run| is at most count-1'
abbrev pub leg_ruled : ℕ → Leg → Bool
leg_ruled size l = ltb l.start size && ltb l.run size

-- a place that is not used is 0
abbrev pub unused : Leg → Bool
unused l = eqb l.start 0 && eqb l.run 0

-- the first k places are legs within the rules, those after them are 0
unfoldable pub places_ruled : ℕ → ℕ → List Leg → Bool
places_ruled size k [] = true
places_ruled size zero (l ∷ ls) = unused l && places_ruled size zero ls
places_ruled size (suc k) (l ∷ ls) = leg_ruled size l && places_ruled size k ls

unfoldable pub plan_ruled : Limits → Plan → Bool
plan_ruled most p = leb 2 p.ports && leb p.ports most.ports && leb 1 p.legs && leb p.legs most.legs && places_ruled (count p.ports) p.legs (places p)
