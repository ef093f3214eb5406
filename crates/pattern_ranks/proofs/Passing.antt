-- One level of a pattern's place: what is passed over, the place of the shorter pattern, and that the sum fits 64 bits.
-- Assumes nothing.
use mathlib.Core.Path.{◌≡◌, refl, sym, ◌∙◌}
use mathlib.Core.Bool.{Bool, true, false, cond}
use mathlib.Core.List.{List}
use Prim.Native.Nat.{ℕ, zero, suc, ◌+◌, ◌*◌, ◌-◌, ◌≤◌, ◌<◌}
use native.Mathlib.Nat.{mul-le-mul_right}
use native.Mathlib.Omega.{arith}
use mir.Syntax.{w64}
use mir.Val.{Fits}
use Rattle.listing.specs.Numbers.{Among, before}
use Rattle.listing.specs.Pattern.{entry, Derangement}
use Rattle.listing.specs.Count.{count}
use Rattle.listing.specs.Steps.{Letter, by_a, by_b, shorter, back, letter}
use Rattle.listing.specs.Rank.{per_block, turned, rank}
use Rattle.listing.specs.Reading.{other, comes_first, passed}
use Rattle.listing.proofs.Counts.{count-blocks}
use Rattle.listing.proofs.Reading.{rank-read}
use Rattle.pattern_inverse.specs.declared.types.Taken.{Taken}
use Rattle.pattern_levels.specs.Levels.{came_of, letter_of, end_of, Peeled}
use Rattle.pattern_levels.specs.declared.types.Came.{Came}
use Rattle.listing_course.proofs.Courses.{shorter-fewer}
use Rattle.pattern_levels.proofs.Came.{as-came}
use Rattle.pattern_ranks.specs.Levels.{PlacedBy, place_of, LevelOf, Placing}
use Rattle.pattern_ranks.specs.declared.types.Level.{Level}

-- ---- what is passed over

-- k whole blocks and one more are in the list
blocks-inside : (n k : ℕ) → 2 ≤ n → k < n - 1 → k * per_block n + per_block n ≤ count n
blocks-inside zero k h l = absurd (omega arith)
blocks-inside (suc zero) k h l = absurd (omega arith)
blocks-inside (suc (suc m)) k h l =
    let room : suc k * per_block (suc (suc m)) ≤ suc m * per_block (suc (suc m)) = mul-le-mul_right (per_block (suc (suc m))) (omega arith) in
    rw (count-blocks m) (omega arith)

-- fewer than n - 1 blocks come before block i, forward or backward
before-fewer : (forward : Bool) (n i : ℕ) → Among (n - 1) i → cond forward (before i) (n - suc i) < n - 1
before-fewer true n zero h = absurd (omega arith)
before-fewer true n (suc i) h = omega arith
before-fewer false n i h = omega arith

-- a part of a block is no longer than the block
part-inside : (first : Bool) (w : Letter) (n : ℕ) → cond first 0 (count (shorter (other w) n)) ≤ per_block n
part-inside true w n = omega arith
part-inside false by_a n = omega arith
part-inside false by_b n = omega arith

-- what is passed over is no more than the list
pub passed-inside : (forward : Bool) (w : Letter) {n i k size part : ℕ} → 2 ≤ n → Among (n - 1) i → k ≡ cond forward (before i) (n - suc i)
    → size ≡ per_block n → part ≡ cond (comes_first forward w i) 0 (count (shorter (other w) n)) → k * size + part ≤ count n
passed-inside forward w {n = n} {i = i} h fits ek es ep =
    rw (ek, es)
    (omega (arith, blocks-inside n (cond forward (before i) (n - suc i)) h (before-fewer forward n i fits), part-inside (comes_first forward w i) w n))

-- ---- the place

-- the place is what is passed over and the place of the shorter pattern, in its list read forward or backward
place-level : (forward : Bool) {n : ℕ} {p : List ℕ} {c : Came} → 2 ≤ n → Derangement n p → c ≡ came_of (letter n p) (entry p n)
    → turned forward (count n) (rank n p)
    ≡ passed forward (letter_of c) n (end_of c)
    + turned (comes_first forward (letter_of c) (end_of c)) (count (shorter (letter_of c) n)) (rank (shorter (letter_of c) n) (back (letter_of c) n p))
place-level forward {n = zero} h D e = absurd (omega arith)
place-level forward {n = suc zero} h D e = absurd (omega arith)
place-level forward {n = suc (suc m)} {p = p} {c = c} h D e =
    let n = suc (suc m) in
    let a = as-came c (letter n p) (entry p n) e in
    rw (← a.0, ← a.1) (rank-read forward m p (letter n p) D refl)

-- so the level that code computes is that of the law
pub level-of : {forward : Bool} {before after : Taken} {c : Came} (l : Level) → 2 ≤ before.ports → Peeled before c after
    → PlacedBy forward before.ports c l → LevelOf forward before l after
level-of {forward = forward} {before = before} {c = c} l h s P =
    record {
      left = s.left ∙ sym P.left;
      fewer = rw P.left (shorter-fewer (letter_of c) before.ports h);
      place = rw (← P.over, ← P.read, ← s.left, ← s.shown) at (place-level forward h before.arrays.pattern s.came);
    }

-- the pattern with no ports has place 0
pub place_none : (forward : Bool) (n x : ℕ) (p : List ℕ) → n ≡ 0 → x ≡ x + turned forward (count n) (rank n p)
unfolding count rank
place_none true n x p e = rw e (omega arith)
place_none false n x p e = rw e (omega arith)

-- what holds once a level of a pattern is known, which was to be placed after x: what is passed over is added to x, and so the shorter pattern is to be placed;
-- and its place is then that of the pattern
pub record Onward (forward : Bool) (x : ℕ) (before : Taken) (l : Level) (after : Taken) : Type 0 where
  pub fewer : after.ports < before.ports
  pub sum : Fits w64 (x + l.passed)
  pub placing : {f : Bool} → l.forward ≡ f → Placing f after (x + l.passed)
  pub place : {f : Bool} {y : ℕ} → l.forward ≡ f → y ≡ x + l.passed + place_of f after → y ≡ x + place_of forward before

pub onward : {forward : Bool} {x : ℕ} {before after : Taken} {l : Level} → LevelOf forward before l after → Placing forward before x
    → Onward forward x before l after
onward {forward = forward} {x = x} {before = before} {after = after} {l = l} here known =
    record {
      fewer = omega (arith, here.left, here.fewer);
      sum = omega (arith, here.place, known);
      placing = λ ef. rw (← ef) (omega (arith, here.place, known));
      place = λ ef ey. ey ∙ rw (← ef) (omega (arith, here.place));
    }
