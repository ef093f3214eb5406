-- Request 1, 'Patterns named, not marks', of any circuit and any test of its ranks: 'the gaps, the longest arcs no leg names', and 'how many different ranks the
-- plan names, each once'. What a plan names stands in Named.
-- Assumes nothing.
use Rattle.std.specs.Prelude.{ℕ, zero, suc, ◌+◌, ◌≤◌, ◌<◌, ◌≡◌, Bool, true, false, not, cond, ◌&&◌, ◌⊎◌, List, [], ◌∷◌}
use Rattle.promise.specs.Campaign.{tick}
use Rattle.promise_arcs.specs.Circle.{onward, backward, ahead}

-- an arc: so many ranks from a first one on
pub record Arc : Type 0 where
  pub first : ℕ
  pub many : ℕ

-- rank r lies on the arc, round a circuit of c
abbrev pub On : ℕ → Arc → ℕ → Type 0
On c A r = ahead c A.first r < A.many

-- A is one of the arcs
abbrev pub In : Arc → List Arc → Type 0
In A [] = ⊥
In A (B ∷ Bs) = (A ≡ B) ⊎ In A Bs

-- 'in rising order of first rank', none of them below lo
abbrev pub Rising : ℕ → List Arc → Type 0
Rising lo [] = Unit {0}
Rising lo (A ∷ As) = (lo ≤ A.first) × Rising (suc A.first) As

-- how many ranks arcs have together
unfoldable pub total : List Arc → ℕ
total [] = 0
total (A ∷ As) = A.many + total As

-- how many of the ranks below c are named: each counts once
unfoldable pub how_many : (ℕ → Bool) → ℕ → ℕ
how_many named zero = 0
how_many named (suc c) = tick (named c) + how_many named c

-- ---- what gaps are

-- a gap is a longest arc of which no rank is named: the rank before its first is named, and so is the rank after its last
pub record Gap (c : ℕ) (named : ℕ → Bool) (A : Arc) : Type 0 where
  pub listed : A.first < c
  pub some : 1 ≤ A.many
  pub unnamed : (r : ℕ) → r < c → On c A r → named r ≡ false
  pub before : named (backward c A.first 1) ≡ true
  pub after : named (onward c A.first A.many) ≡ true

-- the gaps: each of the arcs is one, every rank that is not named lies on one of them, and they stand in rising order of first rank
pub record Gaps (c : ℕ) (named : ℕ → Bool) (As : List Arc) : Type 0 where
  pub each : (A : Arc) → In A As → Gap c named A
  pub all : (r : ℕ) → r < c → named r ≡ false → (A : Arc) × In A As × On c A r
  pub rising : Rising 0 As

-- ---- the list of them, by looking at every rank

-- how many ranks in a row are not named, from rank e on, of the k that are looked at
unfoldable pub unnamed_from : ℕ → (ℕ → Bool) → ℕ → ℕ → ℕ
unnamed_from c named zero e = 0
unnamed_from c named (suc k) e = cond (named e) 0 (suc (unnamed_from c named k (onward c e 1)))

-- whether a gap begins at rank e: it is not named, and the rank before it is
unfoldable pub begins : ℕ → (ℕ → Bool) → ℕ → Bool
begins c named e = not (named e) && named (backward c e 1)

-- the gaps that begin at one of the k ranks from x on
unfoldable pub gaps_among : ℕ → (ℕ → Bool) → ℕ → ℕ → List Arc
gaps_among c named zero x = []
gaps_among c named (suc k) x =
    cond (begins c named x) (record { first = x; many = unnamed_from c named c x } ∷ gaps_among c named k (suc x)) (gaps_among c named k (suc x))

-- the gaps of a circuit of c of which at least one rank is named
unfoldable pub gaps_of : ℕ → (ℕ → Bool) → List Arc
gaps_of c named = gaps_among c named c 0
