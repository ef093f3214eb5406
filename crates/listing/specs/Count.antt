-- How many patterns there are.
-- Assumes nothing.
use Rattle.std.specs.Prelude.{ℕ, zero, suc, ◌+◌, ◌*◌}

-- the count for n ports: 0 for 1, 1 for 2, then n - 1 times the sum of the two before (relation (1) of document 000; the paper, 'The list').
-- The count for 0 is 1, as document 003 has it, so that the rule gives 2 too
unfoldable pub count : ℕ → ℕ
count zero = 1
count (suc zero) = 0
count (suc (suc m)) = suc m * (count (suc m) + count m)
