-- The list of all patterns of n ports, in the order of Baril and Vajnovszki (relation (2) of document 000; the paper, 'The list').
-- Assumes nothing.
use Rattle.std.specs.Prelude.{ℕ, zero, suc, Bool, true, false, List, [], ◌∷◌, ◌++◌, map, reverse, get_or}
use Rattle.listing.specs.Numbers.{odd}
use Rattle.listing.specs.Steps.{step_a, step_b}

-- for odd i A(i) and then B(i) reversed; for even i B(i) and then A(i) reversed
unfoldable pub joined : Bool → List (List ℕ) → List (List ℕ) → List (List ℕ)
joined true allA allB = allA ++ reverse allB
joined false allA allB = allB ++ reverse allA

-- block i of the list for n, from the lists for n - 1 and n - 2
unfoldable pub block : ℕ → List (List ℕ) → List (List ℕ) → ℕ → List (List ℕ)
block n one two i = joined (odd i) (map (step_a n i) one) (map (step_b n i) two)

-- the blocks 1, 2, .., k
unfoldable pub blocks : ℕ → List (List ℕ) → List (List ℕ) → ℕ → List (List ℕ)
blocks n one two zero = []
blocks n one two (suc k) = blocks n one two k ++ block n one two (suc k)

-- the list for n: its n - 1 blocks. The list for 0 has the empty pattern alone, so that the rule gives 2 too
unfoldable pub listing : ℕ → List (List ℕ)
listing zero = [] ∷ []
listing (suc zero) = []
listing (suc (suc m)) = blocks (suc (suc m)) (listing (suc m)) (listing m) (suc m)

-- the pattern of rank r: ranks are the places in the list, counted from 0
unfoldable pub at : ℕ → ℕ → List ℕ
at n r = get_or (listing n) r []
