-- The levels of a pattern: each is what it says of the list (`levels-follow`), and no other record is (`only-levels`); what is passed over adds up to the rank
-- (`levels-add-up`), and the choices rebuild the pattern (`levels-rebuild`). There are at most n - 2 (`levels-few`).
-- Assumes nothing.
use mathlib.Core.Path.{◌≡◌, refl, sym, ap, subst, ◌∙◌}
use mathlib.Core.Logic.{◌≢◌}
use mathlib.Core.Bool.{Bool, true, false}
use mathlib.Core.List.{List, [], ◌∷◌, ◌++◌, map}
use Prim.Native.Nat.{ℕ, zero, suc, ◌+◌, ◌-◌, ◌≤◌, ◌<◌}
use native.Mathlib.Nat.{suc-ne-zero}
use native.Mathlib.Omega.{arith}
use lib.ListN.{length, get_or, length-append, length-map, get_or-append}
use lib.Seq.{get_or-append-add}
use Rattle.listing.specs.Numbers.{Among}
use Rattle.listing.specs.Pattern.{entry, Derangement}
use Rattle.listing.specs.Count.{count}
use Rattle.listing.specs.Steps.{Letter, by_a, by_b, shorter, step, back, letter}
use Rattle.listing.specs.Listing.{at}
use Rattle.listing.specs.Rank.{turned, rank}
use Rattle.listing.specs.Reading.{comes_first, passed}
use Rattle.listing.proofs.Counts.{two-ports}
use Rattle.listing.proofs.Ends.{listing-2}
use Rattle.listing.proofs.Places.{get_d_map, turned-below}
use Rattle.listing.proofs.Shorter.{shorter-first, end_fits, letter-step, letter-back, back_step}
use Rattle.listing.proofs.Ranks.{rank_below, at-rank}
use Rattle.listing.proofs.Reading.{rank-read}
use Rattle.listing_course.proofs.Courses.{shorter-fewer}
use Rattle.listing_levels.specs.Levels.{Level, level_by, level_of, levels, total, shortest, rebuilt, reading, block_of, Passes, Shows, Follow}
use Rattle.listing_levels.proofs.Blocks.{block-there, reading-at, reading-length, only-place}

-- ---- one level

-- its own level and then the levels of the shorter pattern
levels-next : (forward : Bool) (m : ℕ) (p : List ℕ) (w : Letter) → let n = suc (suc (suc m)) in
    letter n p ≡ w → levels forward n p ≡ level_by forward n w (entry p n) ∷ levels (comes_first forward w (entry p n)) (shorter w n) (back w n p)
unfolding levels
levels-next forward m p by_a e = rw e
levels-next forward m p by_b e = rw e

-- the same of any number of ports from 3 on
pub levels-down : (forward : Bool) (n : ℕ) (p : List ℕ) → 3 ≤ n
    → levels forward n p ≡ level_of forward n p ∷ levels (level_of forward n p).forward (shorter (letter n p) n) (back (letter n p) n p)
levels-down forward zero p h = absurd (omega arith)
levels-down forward (suc zero) p h = absurd (omega arith)
levels-down forward (suc (suc zero)) p h = absurd (omega arith)
levels-down forward (suc (suc (suc m))) p h = levels-next forward m p (letter (suc (suc (suc m))) p) refl

-- the level of a pattern is what it says of the list
level-shows : (forward : Bool) (m : ℕ) (p : List ℕ) → Derangement (suc (suc m)) p → Shows forward (suc (suc m)) p (level_of forward (suc (suc m)) p)
level-shows forward m p D =
    let n = suc (suc m) in
    let made = letter-back m p D in
    record {
      ports = refl;
      last = refl;
      from = back (letter n p) n p;
      pattern = made.0;
      came = made.1;
      read = refl;
      passes = block-there forward (letter n p) m (entry p n) (end_fits m p D);
    }

-- and whatever says so is it
module _ (forward : Bool) (m : ℕ) (p : List ℕ) (l : Level) (D : Derangement (suc (suc m)) p) (S : Shows forward (suc (suc m)) p l) where
  abbrev n : ℕ
  n = suc (suc m)

  abbrev fewer : ℕ
  fewer = shorter l.by n

  fits : Among (suc m) l.last
  fits = rw S.last (end_fits m p D)

  came-by : letter n p ≡ l.by
  came-by = ap (letter n) S.came ∙ letter-step l.by m l.last S.from fits S.pattern

  -- the place of the shorter pattern in its list, as that is read
  abbrev inner : ℕ
  inner = turned l.forward (count fewer) (rank fewer S.from)

  inner_below : inner < length (reading l.forward fewer)
  inner_below =
      rw (reading-length l.forward fewer) (turned-below l.forward (count fewer) (rank fewer S.from) (rank_below fewer S.from S.pattern))

  -- so the pattern stands that far behind those that are passed over
  there : get_or (reading forward n) (length S.passes.before + inner) [] ≡ p
  there =
      let P = S.passes in
      let long : length (block_of n l) ≡ length (reading l.forward fewer) = length-map (reading l.forward fewer) (step l.by n l.last) in
      ap (λ ps. get_or ps (length P.before + inner) []) P.there
      ∙ get_or-append-add P.before (block_of n l ++ P.after) inner []
      ∙ get_or-append (block_of n l) P.after [] inner (rw long inner_below)
      ∙ get_d_map (step l.by n l.last) (reading l.forward fewer) inner [] [] inner_below
      ∙ ap (step l.by n l.last)
      (reading-at l.forward fewer (rank fewer S.from) (rank_below fewer S.from S.pattern) ∙ at-rank fewer S.from S.pattern)
      ∙ sym S.came

  passed-so : l.over ≡ passed forward l.by n (entry p n)
  passed-so =
      let P = S.passes in
      let whole : length (reading forward n) ≡ length P.before + (length (block_of n l) + length P.after) =
      ap length P.there
      ∙ length-append P.before (block_of n l ++ P.after)
      ∙ ap (λ (x : ℕ). length P.before + x) (length-append (block_of n l) P.after) in
      let long : length (block_of n l) ≡ length (reading l.forward fewer) = length-map (reading l.forward fewer) (step l.by n l.last) in
      let place = only-place forward n p (length P.before + inner) (omega (arith, whole, long, inner_below)) there in
      let same : back l.by n p ≡ S.from = ap (back l.by n) S.came ∙ back_step l.by m l.last S.from fits S.pattern in
      let inside : inner ≡ turned (comes_first forward l.by (entry p n)) (count fewer) (rank fewer (back l.by n p)) =
      λ k. turned ((S.read ∙ ap (comes_first forward l.by) S.last) k) (count fewer) (rank fewer (sym same k)) in
      omega (arith, P.many, place, inside, rank-read forward m p l.by D came-by)

  only-level : l ≡ level_of forward n p
  only-level =
      let last = S.last in
      let by = sym came-by in
      (λ k.
      record {
        ports = S.ports k;
        last = last k;
        by = by k;
        forward = (S.read ∙ ap (λ w. comes_first forward w l.last) by ∙ ap (comes_first forward (letter n p)) last) k;
        over = (passed-so ∙ ap (λ w. passed forward w n (entry p n)) by) k;
      })

-- ---- all levels

-- what holds up to 2 ports, and from 3 on if it does for the shorter patterns, holds for all
pub levels-first : (P : ℕ → Type 0) → ((n : ℕ) → n ≤ 2 → P n) → ((m : ℕ) → ((w : Letter) → P (shorter w (suc (suc (suc m))))) → P (suc (suc (suc m))))
    → (n : ℕ) → P n
levels-first P few more =
    shorter-first P (few 0 (omega arith)) (few 1 (omega arith))
    (λ m. elim m as (λ k. ((w : Letter) → P (shorter w (suc (suc k)))) → P (suc (suc k))) [ zero ↦ λ shorter-ones. few 2 (omega arith) | suc k ↦ λ shorter-ones. more k shorter-ones ])

-- there are none up to 2 ports
pub levels-none : (n : ℕ) (forward : Bool) (p : List ℕ) → n ≤ 2 → levels forward n p ≡ []
unfolding levels
levels-none zero forward p h = refl
levels-none (suc zero) forward p h = refl
levels-none (suc (suc zero)) forward p h = refl
levels-none (suc (suc (suc m))) forward p h = absurd (omega arith)

pub levels-follow : (n : ℕ) (forward : Bool) (p : List ℕ) → Derangement n p → Follow forward n p (levels forward n p)
unfolding Follow
levels-follow =
    levels-first (λ n. (forward : Bool) (p : List ℕ) → Derangement n p → Follow forward n p (levels forward n p))
    (λ n h forward p D. rw (levels-none n forward p h) h)
    (λ m shorter-ones forward p D.
    let n = suc (suc (suc m)) in
    let rest = shorter-ones (letter n p) (level_of forward n p).forward (back (letter n p) n p) (letter-back (suc m) p D).0 in
    rw (levels-next forward m p (letter n p) refl) (omega arith, level-shows forward (suc m) p D, rest))

-- no other record follows the pattern so, level by level
pub only-levels : (ls : List Level) (n : ℕ) (forward : Bool) (p : List ℕ) → Derangement n p → Follow forward n p ls → ls ≡ levels forward n p
unfolding Follow
only-levels [] n forward p D h = sym (levels-none n forward p h)
only-levels (l ∷ ls) zero forward p D h = absurd (omega (arith, h.0))
only-levels (l ∷ ls) (suc zero) forward p D h = absurd (omega (arith, h.0))
only-levels (l ∷ ls) (suc (suc zero)) forward p D h = absurd (omega (arith, h.0))
only-levels (l ∷ ls) (suc (suc (suc m))) forward p D h =
    let n = suc (suc (suc m)) in
    let e = only-level forward (suc m) p l D h.1 in
    let rest = subst (λ x. Follow x.forward (shorter x.by n) (back x.by n p) ls) e h.2 in
    (λ k. e k ∷ only-levels ls (shorter (letter n p) n) (level_of forward n p).forward (back (letter n p) n p) (letter-back (suc m) p D).0 rest k)
    ∙ sym (levels-next forward m p (letter n p) refl)

-- ---- what is passed over

-- a list of one pattern, or none
count-one : (n : ℕ) → n ≤ 2 → count n ≤ 1
unfolding count
count-one zero h = omega arith
count-one (suc zero) h = omega arith
count-one (suc (suc zero)) h = omega arith
count-one (suc (suc (suc m))) h = absurd (omega arith)

-- has its place at the front, forward or backward
turned_none : (forward : Bool) (m u : ℕ) → u < m → m ≤ 1 → 0 ≡ turned forward m u
turned_none true m u h one = omega arith
turned_none false m u h one = omega arith

pub levels-add-up : (n : ℕ) (forward : Bool) (p : List ℕ) → Derangement n p → total (levels forward n p) ≡ turned forward (count n) (rank n p)
unfolding total
levels-add-up =
    levels-first (λ n. (forward : Bool) (p : List ℕ) → Derangement n p → total (levels forward n p) ≡ turned forward (count n) (rank n p))
    (λ n h forward p D. rw (levels-none n forward p h) (turned_none forward (count n) (rank n p) (rank_below n p D) (count-one n h)))
    (λ m shorter-ones forward p D.
    let n = suc (suc (suc m)) in
    let l = level_of forward n p in
    rw (levels-next forward m p (letter n p) refl)
    (ap (λ (x : ℕ). l.over + x) (shorter-ones (letter n p) l.forward (back (letter n p) n p) (letter-back (suc m) p D).0)
    ∙ sym (rank-read forward (suc m) p (letter n p) D refl)))

-- ---- the choices

-- the pattern of 2 ports
only-shortest : (p : List ℕ) → Derangement 2 p → shortest ≡ p
unfolding at
only-shortest p D =
    let none : 0 ≡ rank 2 p = omega (arith, rank_below 2 p D, count-one 2 (omega arith)) in
    sym (ap (λ ps. get_or ps 0 []) listing-2) ∙ ap (at 2) none ∙ at-rank 2 p D

-- a pattern of 3 ports or more comes from one of 2 or more
pub two-below : (n : ℕ) (p : List ℕ) → 3 ≤ n → Derangement n p → 2 ≤ shorter (letter n p) n
two-below zero p h D = absurd (omega arith)
two-below (suc zero) p h D = absurd (omega arith)
two-below (suc (suc zero)) p h D = absurd (omega arith)
two-below (suc (suc (suc m))) p h D =
    let n = suc (suc (suc m)) in
    let some : (w : Letter) → shorter w n ≢ 0 = λ w. elim w as (λ x. shorter x n ≢ 0) [ by_a ↦ λ e. suc-ne-zero (suc m) e | by_b ↦ λ e. suc-ne-zero m e ] in
    two-ports (some (letter n p)) (rank_below (shorter (letter n p) n) (back (letter n p) n p) (letter-back (suc m) p D).0)

pub levels-rebuild : (n : ℕ) (forward : Bool) (p : List ℕ) → 2 ≤ n → Derangement n p → rebuilt (levels forward n p) ≡ p
unfolding rebuilt
levels-rebuild =
    levels-first (λ n. (forward : Bool) (p : List ℕ) → 2 ≤ n → Derangement n p → rebuilt (levels forward n p) ≡ p)
    (λ n h forward p two D. let e : n ≡ 2 = omega arith in rw (levels-none n forward p h) (only-shortest p (subst (λ k. Derangement k p) e D)))
    (λ m shorter-ones forward p two D.
    let n = suc (suc (suc m)) in
    let l = level_of forward n p in
    let made = letter-back (suc m) p D in
    rw (levels-next forward m p (letter n p) refl)
    (ap (step (letter n p) n (entry p n)) (shorter-ones (letter n p) l.forward (back (letter n p) n p) (two-below n p (omega arith) D) made.0)
    ∙ sym made.1))

-- ---- how many there are

pub levels-few : (n : ℕ) (forward : Bool) (p : List ℕ) → length (levels forward n p) ≤ n - 2
levels-few =
    levels-first (λ n. (forward : Bool) (p : List ℕ) → length (levels forward n p) ≤ n - 2)
    (λ n h forward p. rw (levels-none n forward p h) (omega arith))
    (λ m shorter-ones forward p.
    let n = suc (suc (suc m)) in
    let l = level_of forward n p in
    rw (levels-next forward m p (letter n p) refl)
    (omega (arith, shorter-ones (letter n p) l.forward (back (letter n p) n p), shorter-fewer (letter n p) n (omega arith))))
