-- Laws of the count: its rule, that there is a pattern from 2 ports on, and that the count does not fall.
-- Assumes nothing.
use mathlib.Core.Path.{◌≡◌, refl}
use mathlib.Core.Logic.{◌≢◌}
use Prim.Native.Nat.{ℕ, zero, suc, ◌+◌, ◌*◌, ◌≤◌, ◌<◌}
use native.Mathlib.Nat.{mul-le-mul_right, le_trans, le_refl, not-suc-le-zero}
use native.Mathlib.Decide.{le_ind}
use native.Mathlib.Omega.{arith}
use lib.Dec.{lit<}
use Rattle.listing.specs.Count.{count}
use Rattle.listing.specs.Rank.{per_block}

-- the rule, from 2 on: n - 1 times the sum of the two before (relation (1))
pub count-rule : (m : ℕ) → count (suc (suc m)) ≡ suc m * (count (suc m) + count m)
unfolding count
count-rule m = refl

-- the paper's anchors
pub count-1 : count 1 ≡ 0
unfolding count
count-1 = refl

pub count-2 : count 2 ≡ 1
unfolding count
count-2 = refl

-- where there is a rank and a port there are two
pub two-ports : {n r : ℕ} → n ≢ 0 → r < count n → 2 ≤ n
unfolding count
two-ports {n = zero} h l = absurd (h refl)
two-ports {n = suc zero} h l = absurd (not-suc-le-zero l)
two-ports {n = suc (suc m)} h l = omega arith

-- the list is n - 1 blocks
pub count-blocks : (m : ℕ) → count (suc (suc m)) ≡ suc m * per_block (suc (suc m))
count-blocks m = count-rule m

-- a block is no longer than the list
pub block-in-count : (m : ℕ) → per_block (suc (suc m)) ≤ count (suc (suc m))
block-in-count m = omega (arith, count-blocks m, mul-le-mul_right {m = 1} {n = suc m} (per_block (suc (suc m))) (omega arith))

-- there is a pattern for each number of ports from 2 on
pub count-pos : (m : ℕ) → 0 < count (suc (suc m))
unfolding count
count-pos zero = lit< tt
count-pos (suc m) = omega (arith, block-in-count (suc m), count-pos m)

-- the count does not fall, from 1 on
pub count-grows : (m k : ℕ) → suc m ≤ k → count (suc m) ≤ count k
count-grows m k h = le_ind (λ (x : ℕ). count (suc m) ≤ count x) (le_refl (count (suc m))) up k h
  where
    up : (x : ℕ) → suc m ≤ x → count (suc m) ≤ count x → count (suc m) ≤ count (suc x)
    up zero l c = omega arith
    up (suc x) l c = le_trans c (omega (arith, block-in-count x))
