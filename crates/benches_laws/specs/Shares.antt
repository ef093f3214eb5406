-- How many marks each bench has, and where its share begins (request 8, 'One campaign over several benches'): `total` marks over `benches` benches, which count
-- from 0.
-- Assumes nothing.
use Rattle.std.specs.Prelude.{ℕ, zero, suc, ◌+◌, ◌/◌, ◌%◌, ◌≤◌, ◌<◌, ◌≡◌, List, [], ◌++◌, ltb}
use Rattle.promise.specs.Campaign.{tick}

-- ---- bench after bench

-- what benches 0, 1, .., k - 1 have together, where bench b has f b
unfoldable pub together : (ℕ → ℕ) → ℕ → ℕ
together f zero = 0
together f (suc k) = together f k + f k

-- the lists of benches 0, 1, .., k - 1, one after the other
unfoldable pub in_turn : {A : Type 0} → (ℕ → List A) → ℕ → List A
in_turn f zero = []
in_turn f (suc k) = in_turn f k ++ f k

-- ---- shares

-- the marks of a bench: as many as all have alike, and one of those left over at each of the lower numbers
unfoldable pub share : ℕ → ℕ → ℕ → ℕ
share total benches b = total / benches + tick (ltb b (total % benches))

-- the rank that its share begins at: 'from number 0 at rank 0 on', each where the one before it ends
abbrev pub begins : ℕ → ℕ → ℕ → ℕ
begins total benches b = together (share total benches) b

-- ---- the sentences

pub record Fair (total benches : ℕ) (s : ℕ → ℕ) : Type 0 where
  -- together they are all the marks
  pub all : together s benches ≡ total
  -- 'Shares differ by at most one mark,
  pub near : (b c : ℕ) → b < benches → c < benches → s b ≤ suc (s c)
  -- the larger at the lower numbers'
  pub larger : (b c : ℕ) → b ≤ c → c < benches → s c ≤ s b
