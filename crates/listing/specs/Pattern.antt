-- Patterns: which port is joined to each jack. Jacks and ports count from 1.
-- Assumes nothing.
use Rattle.std.specs.Prelude.{ℕ, zero, suc, ◌+◌, ◌≡◌, ◌≢◌, cond, List, [], ◌∷◌, eqb, length, get_or}
use Rattle.listing.specs.Numbers.{Among}

-- the port at jack j of a panel: the list of its ports, jack 1 first
abbrev pub entry : List ℕ → ℕ → ℕ
entry p j = get_or (0 ∷ p) j 0

-- the panel of n jacks with port g j at each jack j
unfoldable pub tabulate : ℕ → (ℕ → ℕ) → List ℕ
tabulate zero g = []
tabulate (suc n) g = g 1 ∷ tabulate n (λ j. g (suc j))

-- p is a permutation of 1..n: n entries, each one of 1..n, no port at two jacks (document 000, section 1)
pub record Permutation (n : ℕ) (p : List ℕ) : Type 0 where
  pub long : length p ≡ n
  pub ports : (j : ℕ) → Among n j → Among n (entry p j)
  pub apart : (j k : ℕ) → Among n j → Among n k → entry p j ≡ entry p k → j ≡ k

-- p is a pattern of n ports, a derangement: a permutation with no port at its own jack (document 000, section 1; the paper, 'What the software covers')
pub record Derangement (n : ℕ) (p : List ℕ) : Type 0 where
  pub permutation : Permutation n p
  pub moved : (j : ℕ) → Among n j → entry p j ≢ j

-- at how many jacks two panels of one length differ
unfoldable pub differing : List ℕ → List ℕ → ℕ
differing [] q = 0
differing (x ∷ p) [] = 0
differing (x ∷ p) (y ∷ q) = cond (eqb x y) 0 1 + differing p q
