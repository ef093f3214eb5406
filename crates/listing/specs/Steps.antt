-- The two ways to make a pattern from a shorter one, and the ways back (Definition 1 and Remark 2 of document 000). Of each, first the port at jack j,
-- then the whole panel.
-- Assumes nothing.
use Rattle.std.specs.Prelude.{ℕ, cond, List, eqb}
use Rattle.listing.specs.Numbers.{before, is, trade, raise, lower}
use Rattle.listing.specs.Pattern.{entry, tabulate}

-- A(i), from a pattern t of n - 1 ports: n where t holds i, and i at jack n (the function φ of Definition 1)
abbrev pub by_step_a : ℕ → ℕ → List ℕ → ℕ → ℕ
by_step_a n i t j = is j n i (trade i n (entry t j))

unfoldable pub step_a : ℕ → ℕ → List ℕ → List ℕ
step_a n i t = tabulate n (λ j. by_step_a n i t j)

-- B(i), from a pattern t of n - 2 ports: one more to entries of i or more, n inserted as the entry at jack i, so that later entries
-- stand one jack on, and i at jack n (the function ψ of Definition 1)
abbrev pub by_step_b : ℕ → ℕ → List ℕ → ℕ → ℕ
by_step_b n i t j = is j n i (is j i n (raise i (entry t (lower i j))))

unfoldable pub step_b : ℕ → ℕ → List ℕ → List ℕ
step_b n i t = tabulate n (λ j. by_step_b n i t j)

-- back from A: i, the entry at jack n, where p holds n (Remark 2 (1))
abbrev pub by_back_a : ℕ → List ℕ → ℕ → ℕ
by_back_a n p j = trade n (entry p n) (entry p j)

unfoldable pub un_a : ℕ → List ℕ → List ℕ
un_a n p = tabulate (before n) (λ j. by_back_a n p j)

-- back from B: with i the entry at jack n, jack i taken out and one less above i (Remark 2 (2))
abbrev pub by_back_b : ℕ → List ℕ → ℕ → ℕ
by_back_b n p j = lower (entry p n) (entry p (raise (entry p n) j))

unfoldable pub un_b : ℕ → List ℕ → List ℕ
un_b n p = tabulate (before (before n)) (λ j. by_back_b n p j)

-- A pattern of n ports comes from a shorter one by A or by B
pub data Letter : Type 0 where
  by_a : Letter
  by_b : Letter

-- the ports of the shorter pattern
abbrev pub shorter : Letter → ℕ → ℕ
shorter by_a n = before n
shorter by_b n = before (before n)

-- the step itself
abbrev pub step : Letter → ℕ → ℕ → List ℕ → List ℕ
step by_a n i t = step_a n i t
step by_b n i t = step_b n i t

-- the step back
abbrev pub back : Letter → ℕ → List ℕ → List ℕ
back by_a n p = un_a n p
back by_b n p = un_b n p

-- the letter that p came by: with i the entry at jack n, by B if jack i holds n, else by A (the paper, 'The list')
unfoldable pub letter : ℕ → List ℕ → Letter
letter n p = cond (eqb (entry p (entry p n)) n) by_b by_a
