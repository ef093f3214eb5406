-- The course of a pattern: what each level chose on the way from the empty pattern up to it (Definition 1 of document 000; the paper, 'The list'). It is a list
-- with one number for each level, level 1 first: the entry at the last jack of the pattern with so many ports, or 0 where a step by B skips the level.
-- Assumes nothing.
use Rattle.std.specs.Prelude.{ℕ, zero, suc, ◌≤◌, ◌<◌, ◌≡◌, ◌≢◌, cond, List, [], eqb}
use Rattle.listing.specs.Numbers.{Among}
use Rattle.listing.specs.Pattern.{entry}
use Rattle.listing.specs.Steps.{step_a, step_b}

-- the pattern of n ports that a course makes: by B if the level below is skipped, else by A
unfoldable pub built : List ℕ → ℕ → List ℕ
built c zero = []
built c (suc zero) = []
built c (suc (suc m)) =
    let n = suc (suc m) in
    cond (eqb (entry c (suc m)) 0) (step_b n (entry c n) (built c m)) (step_a n (entry c n) (built c (suc m)))

-- c is a course up to n ports: the number of each level is below it, no two levels in turn are skipped, and the last is not
pub record Course (c : List ℕ) (n : ℕ) : Type 0 where
  pub below : (k : ℕ) → Among n k → entry c k < k
  pub apart : (k : ℕ) → 1 ≤ k → k < n → entry c k ≡ 0 → entry c (suc k) ≢ 0
  pub met : 1 ≤ n → entry c n ≢ 0

-- c is the course of the pattern p
pub record CourseOf (c : List ℕ) (n : ℕ) (p : List ℕ) : Type 0 where
  pub course : Course c n
  pub makes : built c n ≡ p

-- d has the numbers of c at the levels above m, up to n
abbrev pub Agrees : List ℕ → List ℕ → ℕ → ℕ → Type 0
Agrees c d m n = (k : ℕ) → m < k → k ≤ n → entry d k ≡ entry c k

-- the levels above m are chosen on the way down from the pattern p of n ports, and the pattern t of m ports is left: every course of t with the numbers above m
-- as they stand is one of p
pub record Traced (c : List ℕ) (n : ℕ) (p : List ℕ) (m : ℕ) (t : List ℕ) : Type 0 where
  pub most : m ≤ n
  pub whole : (d : List ℕ) → CourseOf d m t → Agrees c d m n → CourseOf d n p
