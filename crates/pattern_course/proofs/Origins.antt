-- The origin of a rank: the step and the shorter rank that it names make the pattern of the rank.
-- Assumes nothing.
use mathlib.Core.Path.{◌≡◌, sym, ap, ◌∙◌, subst}
use mathlib.Core.Logic.{◌≢◌}
use Prim.Native.Nat.{ℕ, zero, suc, ◌+◌, ◌-◌, ◌/◌, ◌%◌, ◌≤◌, ◌<◌}
use native.Mathlib.Nat.{mod-lt}
use native.Mathlib.Numerals.{add-one}
use native.Mathlib.Omega.{arith}
use borrow.Author.Tests.{lt-ltb, le-ltb}
use Rattle.listing.specs.Numbers.{Among, before, odd}
use Rattle.listing.specs.Count.{count}
use Rattle.listing.specs.Steps.{step_a, step_b}
use Rattle.listing.specs.Listing.{at}
use Rattle.listing.specs.Rank.{from_end, per_block, turned, unrank}
use Rattle.listing.proofs.Numbers.{either, below?, less_one}
use Rattle.listing.proofs.Counts.{two-ports}
use Rattle.listing.proofs.Places.{turned-below}
use Rattle.listing.proofs.Ranks.{per_block-pos, block-among}
use Rattle.listing.proofs.Unranks.{unrank-at}
use Rattle.pattern_course.specs.Origin.{origin_in, origin_of}
use Rattle.pattern_course.specs.declared.types.Origin.{Origin}
use Rattle.pattern_course.specs.declared.types.Origin.TheVariants.{ByA, ByB}

-- ---- the numbers that the code computes

-- blocks are not empty, and fewer than n - 1 of them come before that of rank r
blocks-around : (n r : ℕ) → 2 ≤ n → r < count n → (0 < per_block n) × (r / per_block n < n - 1)
blocks-around zero r h l = absurd (omega arith)
blocks-around (suc zero) r h l = absurd (omega arith)
blocks-around (suc (suc m)) r h l = (per_block-pos m r l, omega (arith, block-among m r l))

module _ {n r size : ℕ} (h : 2 ≤ n) (l : r < count n) (e : size ≡ per_block n) where
  -- the size of a block, as a divisor
  pub size-some : 0 < size
  size-some = rw e (blocks-around n r h l).0

  -- the number of blocks before, as a byte
  pub blocks-fewer : r / size < n - 1
  blocks-fewer = rw e (blocks-around n r h l).1

  module _ {u : ℕ} (t : u ≡ turned (odd (r / size + 1)) size (r % size)) where
    -- the place in the block is in the block
    pub place_inside : u < size
    place_inside = rw t (turned-below (odd (r / size + 1)) size (r % size) (mod-lt r size-some))

    -- the definition, in these numbers
    known : origin_in n (r / size + 1) u ≡ origin_of n r
    unfolding origin_of
    known = rw (t, add-one, e)

    -- by A in the first part
    pub origin-a : u < count (n - 1) → ByA (r / size + 1) u ≡ origin_of n r
    origin-a b = let b' = rw (less_one n) at b in (rw (lt-ltb u (count (before n)) b')) ∙ known

    -- by B in the second, which is the reversed list
    pub origin-b : count (n - 1) ≤ u → ByB (r / size + 1) (from_end size u) ≡ origin_of n r
    origin-b b =
        let b' = rw (less_one n) at b in
        let i : u < size = place_inside in
        let f : from_end size u ≡ from_end (count (before (before n))) (u - count (before n)) = omega arith in
        (rw (le-ltb u (count (before n)) b', f)) ∙ known

-- ---- what an origin makes

-- the step and the shorter rank of an origin make the pattern of rank r
abbrev pub Makes : ℕ → ℕ → Origin → Type 0
Makes n r (ByA i s) = Among (n - 1) i × (s < count (n - 1)) × (step_a n i (at (n - 1) s) ≡ at n r)
Makes n r (ByB i s) = Among (n - 1) i × (s < count (n - 2)) × (step_b n i (at (n - 2) s) ≡ at n r)

-- as `unrank` makes it
makes-a : (m r i s : ℕ) → Among (suc m) i → r < count (suc (suc m)) → s < count (suc m) → step_a (suc (suc m)) i (unrank (suc m) s) ≡ unrank (suc (suc m)) r
    → Makes (suc (suc m)) r (ByA i s)
makes-a m r i s fits l b e =
    let a : suc (suc m) - 1 ≡ suc m = omega arith in
    rw a (fits, b, ap (step_a (suc (suc m)) i) (sym (unrank-at (suc m) s b)) ∙ e ∙ unrank-at (suc (suc m)) r l)

makes-b : (m r i s : ℕ) → Among (suc m) i → r < count (suc (suc m)) → s < count m → step_b (suc (suc m)) i (unrank m s) ≡ unrank (suc (suc m)) r
    → Makes (suc (suc m)) r (ByB i s)
makes-b m r i s fits l b e =
    let a : suc (suc m) - 1 ≡ suc m = omega arith in
    let a' : suc (suc m) - 2 ≡ m = omega arith in
    rw (a, a') (fits, b, ap (step_b (suc (suc m)) i) (sym (unrank-at m s b)) ∙ e ∙ unrank-at (suc (suc m)) r l)

-- by A or by B, as the place in the block says
makes : (n r : ℕ) → 2 ≤ n → r < count n → Makes n r (origin_of n r)
unfolding origin_of unrank
makes zero r h l = absurd (omega arith)
makes (suc zero) r h l = absurd (omega arith)
makes (suc (suc m)) r h l =
    let n = suc (suc m) in
    let size = per_block n in
    let i = suc (r / size) in
    let u = turned (odd i) size (r % size) in
    let inside : u < size = turned-below (odd i) size (r % size) (mod-lt r (per_block-pos m r l)) in
    either (below? u (count (suc m)))
    (λ b. let t = lt-ltb u (count (suc m)) b in rw t (makes-a m r i u (block-among m r l) l b (rw t)))
    (λ b.
    let t = le-ltb u (count (suc m)) b in
    let s = from_end (count m) (u - count (suc m)) in
    rw t (makes-b m r i s (block-among m r l) l (omega arith) (rw t)))

-- the origin of a rank makes its pattern
pub origin-makes : {n r : ℕ} {o o' : Origin} → n ≢ 0 → r < count n → o ≡ origin_of n r → o ≡ o' → Makes n r o'
origin-makes {n = n} {r = r} h l e e' = subst (Makes n r) (sym e ∙ e') (makes n r (two-ports h l) l)
