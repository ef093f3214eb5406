-- Ranks and patterns are one to one: below the count, `at n` and `rank n` undo each other. Each law goes by the one shorter pattern that a pattern is made
-- from, and by the one place in a block that a rank is.
-- Assumes nothing.
use mathlib.Core.Path.{◌≡◌, refl, sym, ap, ◌∙◌, subst}
use mathlib.Core.List.{List, [], ◌∷◌, reverse}
use Prim.Native.Nat.{ℕ, zero, suc, ◌+◌, ◌*◌, ◌-◌, ◌/◌, ◌%◌, ◌≤◌, ◌<◌}
use native.Mathlib.Nat.{not-suc-le-zero, eq-zero-or-pos, mod-lt, div-lt_iff_lt-mul, div-add-mod', mul-le-mul_right, mul-zero, suc-ne-zero}
use native.Mathlib.Omega.{arith}
use lib.ListN.{length, get_or}
use borrow.Author.Tests.{eq-eqb, ne_eqb}
use Rattle.listing.specs.Numbers.{Among, before, odd}
use Rattle.listing.specs.Pattern.{entry, Derangement}
use Rattle.listing.specs.Count.{count}
use Rattle.listing.specs.Steps.{Letter, by_a, by_b, shorter, step}
use Rattle.listing.specs.Listing.{listing, at}
use Rattle.listing.specs.Rank.{from_end, per_block, in_odd, turned, place, rank}
use Rattle.listing.proofs.Numbers.{either, below?}
use Rattle.listing.proofs.Counts.{count-blocks}
use Rattle.listing.proofs.StepEntries.{B-at}
use Rattle.listing.proofs.StepA.{A-free}
use Rattle.listing.proofs.Shorter.{shorter-first, step-derangement, step_end, back_step, made}
use Rattle.listing.proofs.Places.{get_d_reverse, turned-twice, turned-below, in_odd-below, length-listing, at_place}

-- ---- a rank, taken apart

-- r is the place of the pattern made by a letter, with an i of 1 to n - 1, from the shorter one of rank s
pub record Placed (m r : ℕ) : Type 0 where
  pub by : Letter
  pub i : ℕ
  pub s : ℕ
  pub fits : Among (suc m) i
  pub below : s < count (shorter by (suc (suc m)))
  pub is : r ≡ place by (suc (suc m)) i s

-- the blocks of the list for n are not empty if there is a rank
pub per_block-pos : (m r : ℕ) → r < count (suc (suc m)) → 0 < per_block (suc (suc m))
per_block-pos m r h =
    either (eq-zero-or-pos (per_block (suc (suc m))))
    (λ e. absurd (let z : r < suc m * 0 = rw (count-blocks m, e) at h in omega (arith, mul-zero (suc m))))
    (λ pos. pos)

-- rank r stands in block r / perBlock n + 1
pub block-among : (m r : ℕ) → r < count (suc (suc m)) → Among (suc m) (suc (r / per_block (suc (suc m))))
block-among m r h = let b : r / per_block (suc (suc m)) < suc m = (div-lt_iff_lt-mul (per_block-pos m r h)).1 (rw (count-blocks m) at h) in omega arith

-- place u of an odd block is that of a pattern by A or by B
pub placed-in : (m i u : ℕ) → Among (suc m) i → u < per_block (suc (suc m))
    → Placed m (before i * per_block (suc (suc m)) + turned (odd i) (per_block (suc (suc m))) u)
unfolding place
placed-in m i u fits h =
    either (below? u (count (suc m)))
    (λ b. record { by = by_a; i = i; s = u; fits = fits; below = b; is = refl })
    (λ b.
    let s = from_end (count m) (u - count (suc m)) in
    let e : count (suc m) + from_end (count m) s ≡ u = omega arith in
    record { by = by_b; i = i; s = s; fits = fits; below = omega arith; is = rw e })

-- every rank is such a place
pub placed : (m r : ℕ) → r < count (suc (suc m)) → Placed m r
placed m r h =
    let size = per_block (suc (suc m)) in
    let i = suc (r / size) in
    let below : r % size < size = mod-lt r (per_block-pos m r h) in
    subst (Placed m)
    (ap (λ (x : ℕ). r / size * size + x) (turned-twice (odd i) size (r % size) below) ∙ div-add-mod' r size)
    (placed-in m i (turned (odd i) size (r % size)) (block-among m r h) (turned-below (odd i) size (r % size) below))

-- such a place is a rank
pub place-below : (w : Letter) (m i s : ℕ) → Among (suc m) i → s < count (shorter w (suc (suc m))) → place w (suc (suc m)) i s < count (suc (suc m))
unfolding place
place-below w m zero s fits h = absurd (omega arith)
place-below w m (suc q) s fits h =
    let size = per_block (suc (suc m)) in
    let inside : turned (odd (suc q)) size (in_odd w (suc (suc m)) s) < size = turned-below (odd (suc q)) size (in_odd w (suc (suc m)) s) (in_odd-below w m s h) in
    let room : suc q * size ≤ suc m * size = mul-le-mul_right size fits.1 in
    rw (count-blocks m) (omega arith)

-- ---- the rank of the pattern that a step makes

pub rank_step : (w : Letter) (m i : ℕ) (t : List ℕ) → Among (suc m) i → Derangement (shorter w (suc (suc m))) t
    → rank (suc (suc m)) (step w (suc (suc m)) i t) ≡ place w (suc (suc m)) i (rank (shorter w (suc (suc m))) t)
unfolding rank
rank_step by_a m i t fits D =
    let free = ne_eqb (entry (step by_a (suc (suc m)) i t) i) (suc (suc m)) (A-free (suc m) i t fits D) in
    rw (step_end by_a m i t fits D, free, back_step by_a m i t fits D)
rank_step by_b m i t fits D =
    let held = eq-eqb (entry (step by_b (suc (suc m)) i t) i) (suc (suc m)) (B-at (suc (suc m)) i t (omega arith) (omega arith)) in
    rw (step_end by_b m i t fits D, held, back_step by_b m i t fits D)

-- ---- the members of the list are patterns

-- the pattern with no jacks
none : Derangement 0 []
none =
    record {
      permutation = record { long = refl; ports = λ j h. absurd (omega arith); apart = λ j k h h' e. absurd (omega arith) };
      moved = λ j h. absurd (omega arith);
    }

pub at-derangement : (n r : ℕ) → r < count n → Derangement n (at n r)
unfolding count at listing
at-derangement =
    shorter-first (λ n. (r : ℕ) → r < count n → Derangement n (at n r))
    (λ r h. let e : r ≡ 0 = omega arith in rw e none)
    (λ r h. absurd (not-suc-le-zero h))
    (λ m shorter-ones r h.
    let c = placed m r h in
    rw (c.is, at_place c.by m c.i c.s c.fits c.below)
    (step-derangement c.by m c.i (at (shorter c.by (suc (suc m))) c.s) c.fits (shorter-ones c.by c.s c.below)))

-- ---- the rank of the pattern at r is r

pub rank-at : (n r : ℕ) → r < count n → rank n (at n r) ≡ r
unfolding count rank
rank-at =
    shorter-first (λ n. (r : ℕ) → r < count n → rank n (at n r) ≡ r)
    (λ r h. omega arith)
    (λ r h. absurd (not-suc-le-zero h))
    (λ m shorter-ones r h.
    let n = suc (suc m) in
    let c = placed m r h in
    let t = at (shorter c.by n) c.s in
    ap (rank n) (ap (at n) c.is ∙ at_place c.by m c.i c.s c.fits c.below)
    ∙ rank_step c.by m c.i t c.fits (at-derangement (shorter c.by n) c.s c.below)
    ∙ ap (place c.by n c.i) (shorter-ones c.by c.s c.below)
    ∙ sym c.is)

-- ---- the pattern at the rank of p is p

-- there is no pattern of one port
pub not-one : (p : List ℕ) → Derangement 1 p → ⊥
not-one p D = omega (arith, D.permutation.ports 1 (omega arith), D.moved 1 (omega arith))

pub rank_below : (n : ℕ) (p : List ℕ) → Derangement n p → rank n p < count n
unfolding count rank
rank_below =
    shorter-first (λ n. (p : List ℕ) → Derangement n p → rank n p < count n)
    (λ p D. omega arith)
    (λ p D. absurd (not-one p D))
    (λ m shorter-ones p D.
    let c = made m p D in
    rw (c.is, rank_step c.by m c.i c.from c.fits c.pattern)
    (place-below c.by m c.i (rank (shorter c.by (suc (suc m))) c.from) c.fits (shorter-ones c.by c.from c.pattern)))

empty : (p : List ℕ) → length p ≡ 0 → [] ≡ p
empty [] h = refl
empty (x ∷ p) h = absurd (suc-ne-zero (length p) h)

pub at-rank : (n : ℕ) (p : List ℕ) → Derangement n p → at n (rank n p) ≡ p
unfolding at listing rank
at-rank =
    shorter-first (λ n. (p : List ℕ) → Derangement n p → at n (rank n p) ≡ p)
    (λ p D. empty p D.permutation.long)
    (λ p D. absurd (not-one p D))
    (λ m shorter-ones p D.
    let n = suc (suc m) in
    let c = made m p D in
    let r = rank (shorter c.by n) c.from in
    ap (at n) (ap (rank n) c.is ∙ rank_step c.by m c.i c.from c.fits c.pattern)
    ∙ at_place c.by m c.i r c.fits (rank_below (shorter c.by n) c.from c.pattern)
    ∙ ap (step c.by n c.i) (shorter-ones c.by c.from c.pattern)
    ∙ sym c.is)

-- ---- what follows

-- no pattern stands in the list twice
pub at_once : (n r s : ℕ) → r < count n → s < count n → at n r ≡ at n s → r ≡ s
at_once n r s hr hs e = sym (rank-at n r hr) ∙ ap (rank n) e ∙ rank-at n s hs

-- a pattern stands in the list at its rank, and nowhere else
pub only-rank : (n : ℕ) (p : List ℕ) (r : ℕ) → r < count n → at n r ≡ p → r ≡ rank n p
only-rank n p r h e = sym (rank-at n r h) ∙ ap (rank n) e

-- p stands in the list, at a place of it
pub record Listed (n : ℕ) (p : List ℕ) : Type 0 where
  pub place : ℕ
  pub inside : place < length (listing n)
  pub there : get_or (listing n) place [] ≡ p

-- the members of the list are exactly the patterns
pub listed-patterns : (n : ℕ) (p : List ℕ) → Listed n p → Derangement n p
unfolding at
listed-patterns n p l = let h : l.place < count n = rw length-listing at l.inside in subst (Derangement n) l.there (at-derangement n l.place h)

pub patterns-listed : (n : ℕ) (p : List ℕ) → Derangement n p → Listed n p
unfolding at
patterns-listed n p D = record { place = rank n p; inside = rw length-listing (rank_below n p D); there = at-rank n p D }

-- the place in the reversed list: the pattern of rank r stands there as far from the end
pub at-reversed : (n r : ℕ) → r < count n → get_or (reverse (listing n)) (from_end (count n) r) [] ≡ at n r
unfolding at
at-reversed n r h = rw (← length-listing n) (get_d_reverse (listing n) r [] (rw length-listing h))
