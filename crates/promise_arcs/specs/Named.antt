-- The ranks that a plan names and the gaps that it leaves (request 1), over the plan's list of ranks; and what is promised of them, sentence by sentence.
-- Assumes nothing.
use Rattle.std.specs.Prelude.{ℕ, ◌+◌, ◌≤◌, ◌<◌, ◌≡◌, Bool, true, false, ◌||◌, ◌⊎◌, ◌↔◌, List, [], ◌∷◌, eqb, length}
use Rattle.promise.specs.Plan.{Family, Leg, leg_at, rank_at, ranks}
use Rattle.promise_arcs.specs.Circle.{onward}
use Rattle.promise_arcs.specs.Gaps.{Arc, On, In, total, how_many, Gaps, gaps_of}

-- whether rank r stands in a list of ranks
unfoldable pub appears : List ℕ → ℕ → Bool
appears [] r = false
appears (x ∷ xs) r = eqb x r || appears xs r

-- whether a plan names rank r: it stands in the plan's list of ranks
abbrev pub named : Family → List Leg → ℕ → Bool
named F legs r = appears (ranks F legs) r

-- the same in the paper's words: a leg names it at some step
abbrev pub AtStep : Family → List Leg → ℕ → Type 0
AtStep F legs r = (i : ℕ) × (k : ℕ) × (i < length legs) × (k ≤ (leg_at legs i).run) × (rank_at F (leg_at legs i) k ≡ r)

-- 'how many different ranks the plan names, each once'
unfoldable pub many_named : Family → List Leg → ℕ
many_named F legs = how_many (named F legs) F.size

-- 'the gaps, the longest arcs no leg names'
unfoldable pub gaps_left : Family → List Leg → List Arc
gaps_left F legs = gaps_of F.size (named F legs)

-- the gaps as numbers, 'two for each, first rank and how many'
unfoldable pub numbers : List Arc → List ℕ
numbers [] = []
numbers (A ∷ As) = A.first ∷ A.many ∷ numbers As

-- ---- what is promised

-- rank r lies on one of the arcs, and on no other
pub record OnOne (c : ℕ) (As : List Arc) (r : ℕ) : Type 0 where
  pub arc : Arc
  pub among : In arc As
  pub on : On c arc r
  pub only : (B : Arc) → In B As → On c B r → B ≡ arc

-- what a planner is told is right: so many ranks are named, these are the gaps
pub record Right (F : Family) (legs : List Leg) (many : ℕ) (As : List Arc) : Type 0 where
  -- a rank is named exactly if a leg names it at some step
  pub names : (r : ℕ) → (named F legs r ≡ true) ↔ AtStep F legs r
  -- 'how many different ranks the plan names, each once'
  pub once : many ≡ how_many (named F legs) F.size
  -- 'the gaps, the longest arcs no leg names', 'in rising order of first rank'
  pub gaps : Gaps F.size (named F legs) As
  -- and no other list of arcs is the gaps
  pub only : (Bs : List Arc) → Gaps F.size (named F legs) Bs → Bs ≡ As
  -- no arc of which no rank is named goes beyond a gap that it has a rank in common with
  pub longest : (X : Arc) → X.first < F.size → ((r : ℕ) → r < F.size → On F.size X r → named F legs r ≡ false)
      → (A : Arc) → In A As → (r : ℕ) → r < F.size → On F.size X r → On F.size A r → (q : ℕ) → q < F.size → On F.size X q → On F.size A q
  -- a rank is named and on no gap, or it is not named and on exactly one
  pub either : (r : ℕ) → r < F.size
      → ((named F legs r ≡ true) × ((A : Arc) → In A As → ¬ On F.size A r)) ⊎ ((named F legs r ≡ false) × OnOne F.size As r)
  -- 'A gap that runs through rank 0 is one arc': and so is one that runs through any two neighbours
  pub through : (r : ℕ) → r < F.size → (A B : Arc) → In A As → In B As → On F.size A r → On F.size B (onward F.size r 1) → A ≡ B
  -- 'Named ranks and gap ranks together must be the whole circuit'
  pub whole : many + total As ≡ F.size
  -- there are no more gaps than legs
  pub few : length As ≤ length legs
