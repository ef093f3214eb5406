-- Inside a block, all rows of the table together: one move joins A(i) of the last pattern of n - 1 to B(i) of the last of n - 2.
-- Assumes nothing.
use mathlib.Core.Path.{◌≡◌, refl}
use mathlib.Core.Bool.{Bool}
use Prim.Native.Nat.{ℕ, zero, suc, ◌-◌, ◌≤◌}
use native.Mathlib.Omega.{arith}
use Rattle.listing.specs.Numbers.{Among, is, trade, raise, lower, odd}
use Rattle.listing.specs.Pattern.{tabulate}
use Rattle.listing.specs.Steps.{step_a, step_b}
use Rattle.listing.specs.Ends.{last}
use Rattle.listing.specs.Orders.{source, carry, carry_all, one, Leads}
use Rattle.listing.specs.Joins.{join, join4}
use Rattle.listing.proofs.Numbers.{either, below?, same?}
use Rattle.listing.proofs.Joins.{n, k₁, k₂, k₃, from, to, row_one, row-inner, row-third, row-second, row-top}

-- ---- relation (8), all rows

-- n is k + 4, as in Joins
module _ (k : ℕ) (pos : 1 ≤ k) where
  -- and these are all
  rows : (b : Bool) → odd (n k pos) ≡ b → (i : ℕ) → Among (k₃ k pos) i → Leads (n k pos) (join (n k pos) i) (from k pos i) (to k pos i)
  rows b parity zero hi = absurd (omega arith)
  rows b parity (suc zero) hi = row_one k pos b parity
  rows b parity (suc (suc h)) hi =
      either (below? (suc h) k)
      (λ l. row-inner k pos b parity (suc h) (omega arith) l)
      (λ l. either (same? (suc h) k)
      (λ e. rw e (row-third k pos b parity))
      (λ l₁. either (same? (suc h) (k₁ k pos))
      (λ e. rw e (row-second k pos b parity))
      (λ l₂. let e : suc h ≡ (k₂ k pos) = omega arith in rw e (row-top k pos b parity))))

-- ---- relation (7), by computation

-- n = 4
join-four : (i : ℕ) → Among 3 i → Leads 4 (join 4 i) (step_a 4 i (last 3)) (step_b 4 i (last 2))
unfolding join join4 carry_all carry tabulate source step_a step_b last odd is trade raise lower
join-four zero hi = absurd (omega arith)
join-four (suc zero) hi = record { long = refl; form = omega arith; makes = refl }
join-four (suc (suc zero)) hi = record { long = refl; form = omega arith; makes = refl }
join-four (suc (suc (suc zero))) hi = record { long = refl; form = omega arith; makes = refl }
join-four (suc (suc (suc (suc i)))) hi = absurd (omega arith)

-- one move joins A(i) of the last pattern of n - 1 to B(i) of the last of n - 2
pub join-leads : (m i : ℕ) → 2 ≤ m → Among (suc m) i
    → Leads (suc (suc m)) (join (suc (suc m)) i) (step_a (suc (suc m)) i (last (suc m))) (step_b (suc (suc m)) i (last m))
join-leads zero i big hi = absurd (omega arith)
join-leads (suc zero) i big hi = absurd (omega arith)
join-leads (suc (suc zero)) i big hi = join-four i hi
join-leads (suc (suc (suc k))) i big hi = rows (suc k) (omega arith) (odd (suc (suc (suc (suc (suc k)))))) refl i hi
