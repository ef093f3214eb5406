-- The place of a pattern in the list, read forward or backward: what is passed over, and the place of the shorter pattern in its list, which is read forward
-- in the first part of a block and backward in the second.
-- Assumes nothing.
use mathlib.Core.Path.{◌≡◌, ap, ◌∙◌}
use mathlib.Core.Bool.{Bool, true, false, cond}
use mathlib.Core.List.{List}
use Prim.Native.Nat.{ℕ, zero, suc, ◌+◌, ◌*◌, ◌-◌, ◌<◌}
use native.Mathlib.Omega.{arith}
use Rattle.listing.specs.Numbers.{Among, odd}
use Rattle.listing.specs.Pattern.{entry, Derangement}
use Rattle.listing.specs.Count.{count}
use Rattle.listing.specs.Steps.{Letter, by_a, by_b, shorter, back, letter}
use Rattle.listing.specs.Rank.{from_end, per_block, in_odd, turned, place, rank}
use Rattle.listing.specs.Reading.{other, comes_first, passed}
use Rattle.listing.proofs.Numbers.{either, test}
use Rattle.listing.proofs.Counts.{count-blocks}
use Rattle.listing.proofs.Shorter.{end_fits, letter-back}
use Rattle.listing.proofs.Places.{turned-below, in_odd-below}
use Rattle.listing.proofs.Ranks.{rank_step, rank_below}

-- k blocks of size c are q of them, one more, and the others
all_blocks : (k q c : ℕ) → q < k → k * c ≡ q * c + c + (k - suc q) * c
all_blocks k q c h = let e : k ≡ suc q + (k - suc q) = omega arith in ap (λ (x : ℕ). x * c) e ∙ omega arith

-- of a place in one block, from the other end of them all
from_last : (k q c u : ℕ) → q < k → u < c → from_end (k * c) (q * c + u) ≡ (k - suc q) * c + from_end c u
from_last k q c u h l = omega (arith, all_blocks k q c h)

-- the place in a block, from its other end
read_back : (w : Letter) (m q s : ℕ) → s < count (shorter w (suc (suc m)))
    → from_end (per_block (suc (suc m))) (turned (odd (suc q)) (per_block (suc (suc m))) (in_odd w (suc (suc m)) s))
    ≡ cond (comes_first false w (suc q)) 0 (count (shorter (other w) (suc (suc m)))) + turned (comes_first false w (suc q)) (count (shorter w (suc (suc m)))) s
read_back by_a m q s h = either (test (odd (suc q))) (λ o. rw o (omega arith)) (λ o. rw o (omega arith))
read_back by_b m q s h = either (test (odd (suc q))) (λ o. rw o (omega arith)) (λ o. rw o (omega arith))

-- the place in the list read forward or backward: what is passed over, and the shorter pattern's place in its list
pub place_read : (forward : Bool) (w : Letter) (m i s : ℕ) → Among (suc m) i → s < count (shorter w (suc (suc m)))
    → turned forward (count (suc (suc m))) (place w (suc (suc m)) i s)
    ≡ passed forward w (suc (suc m)) i + turned (comes_first forward w i) (count (shorter w (suc (suc m)))) s
unfolding place passed
place_read forward w m zero s fits h = absurd (omega arith)
place_read true by_a m (suc q) s fits h = either (test (odd (suc q))) (λ o. rw o (omega arith)) (λ o. rw o (omega arith))
place_read true by_b m (suc q) s fits h = either (test (odd (suc q))) (λ o. rw o (omega arith)) (λ o. rw o (omega arith))
place_read false w m (suc q) s fits h =
    let n = suc (suc m) in
    let size = per_block n in
    let u = turned (odd (suc q)) size (in_odd w n s) in
    let inside : u < size = turned-below (odd (suc q)) size (in_odd w n s) (in_odd-below w m s h) in
    let less : n - suc (suc q) ≡ suc m - suc q = omega arith in
    rw (count-blocks m, less) (from_last (suc m) q size u (omega arith) inside ∙ ap (λ (x : ℕ). (suc m - suc q) * size + x) (read_back w m q s h) ∙ omega arith)

-- so the rank, read forward or backward, level by level: with i the entry at jack n and w the letter that p came by
pub rank-read : (forward : Bool) (m : ℕ) (p : List ℕ) (w : Letter) → Derangement (suc (suc m)) p → letter (suc (suc m)) p ≡ w
    → turned forward (count (suc (suc m))) (rank (suc (suc m)) p)
    ≡ passed forward w (suc (suc m)) (entry p (suc (suc m)))
    + turned (comes_first forward w (entry p (suc (suc m)))) (count (shorter w (suc (suc m)))) (rank (shorter w (suc (suc m))) (back w (suc (suc m)) p))
rank-read forward m p w D e =
    let n = suc (suc m) in
    let i = entry p n in
    let t = back (letter n p) n p in
    let made = letter-back m p D in
    rw (← e)
    (ap (turned forward (count n)) (ap (rank n) made.1 ∙ rank_step (letter n p) m i t (end_fits m p D) made.0)
    ∙ place_read forward (letter n p) m i (rank (shorter (letter n p) n) t) (end_fits m p D) (rank_below (shorter (letter n p) n) t made.0))
