-- The step that a pattern came by: its letter, its block and its ports, as the code has them.
-- Assumes nothing.
use mathlib.Core.Path.{◌≡◌, refl}
use mathlib.Core.Logic.{◌≢◌}
use mathlib.Core.List.{List}
use Prim.Native.Nat.{ℕ, zero, suc, ◌-◌, ◌≤◌}
use native.Mathlib.Omega.{arith}
use Rattle.listing.specs.Numbers.{Among}
use Rattle.listing.specs.Pattern.{entry, Derangement}
use Rattle.listing.specs.Steps.{Letter, by_a, by_b, letter}
use Rattle.listing.proofs.Counts.{two-ports}
use Rattle.listing.proofs.Shorter.{end_fits}
use Rattle.listing.proofs.Ranks.{rank_below}
use Rattle.pattern_levels.specs.Levels.{came_of, letter_of, end_of}
use Rattle.pattern_levels.specs.declared.types.Came.{Came}

-- which step it was, and the entry at the last jack
pub as-came : (c : Came) (w : Letter) (i : ℕ) → c ≡ came_of w i → (w ≡ letter_of c) × (i ≡ end_of c)
as-came c by_a i e = rw e (refl, refl)
as-came c by_b i e = rw e (refl, refl)

-- a pattern with a port has two
pub two-jacks : {n : ℕ} {p : List ℕ} → n ≢ 0 → Derangement n p → 2 ≤ n
two-jacks {n = n} {p = p} h D = two-ports h (rank_below n p D)

-- the entry at the last jack is 1 to n - 1
pub end-among : {n : ℕ} {p : List ℕ} {c : Came} → 2 ≤ n → Derangement n p → c ≡ came_of (letter n p) (entry p n) → Among (n - 1) (end_of c)
end-among {n = zero} h D e = absurd (omega arith)
end-among {n = suc zero} h D e = absurd (omega arith)
end-among {n = suc (suc m)} {p = p} {c = c} h D e = rw (← (as-came c (letter (suc (suc m)) p) (entry p (suc (suc m))) e).1) (omega (arith, end_fits m p D))
