-- The first and the last pattern of the list (Lemma 3 of document 000).
-- Assumes nothing.
use Rattle.std.specs.Prelude.{ℕ, suc, ◌-◌, cond, List}
use Rattle.listing.specs.Numbers.{is, odd}
use Rattle.listing.specs.Pattern.{tabulate}

-- (2, 3, .., n, 1), the pattern of rank 0 and the panel's home
unfoldable pub home : ℕ → List ℕ
home n = tabulate n (λ j. is j n 1 (suc j))

-- (2, 3, .., n-2, n, 1, n-1) for odd n, (2, 3, .., n-2, 1, n, n-1) for even n
unfoldable pub last : ℕ → List ℕ
last n = tabulate n (λ j. is j n (n - 1) (is j (n - 1) (cond (odd n) 1 n) (is j (n - 2) (cond (odd n) n 1) (suc j))))
