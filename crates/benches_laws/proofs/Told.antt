-- What the calls tell, case by case.
-- Assumes nothing.
use mathlib.Core.Path.{◌≡◌, refl, sym, ap, subst, ◌∙◌}
use mathlib.Core.Bool.{Bool, true, false, cond, true≢false}
use mathlib.Core.List.{List}
use mathlib.Core.Option.{Option, none, some}
use Prim.Native.Nat.{ℕ, suc, ◌*◌, ◌≤◌, ◌<◌}
use native.Mathlib.Omega.{arith}
use lib.Dec.{eqb, ltb}
use lib.ListN.{length}
use borrow.Author.Tests.{eq-eqb, ne_eqb, lt-ltb, le-ltb}
use Rattle.listing.specs.Count.{count}
use Rattle.listing.specs.Numbers.{Among}
use Rattle.listing.specs.Limits.{most_ports, largest64}
use Rattle.listing.proofs.Limits.{count_most}
use Rattle.listing.proofs.Numbers.{either, test, below?}
use Rattle.words.specs.Told.{Told, accepted, refused, nowhere, at_bench}
use Rattle.words.specs.Shape.{one_of}
use Rattle.words.proofs.Told.{accepted-once, not-both}
use Rattle.words.proofs.Shape.{within-true, one-of}
use Rattle.pattern_check.specs.Calls.{in_size, sized}
use Rattle.pattern_check.proofs.Calls.{size-within}
use Rattle.promise.specs.Plan.{Leg}
use Rattle.benches_laws.specs.Plans.{plan_of}
use Rattle.benches_laws.specs.Calls.{most_benches, Good, benched, share_of, per_bench, Counts, sums, bench_fits, first_not, unless, added_up, sum_of}
use Rattle.benches_laws.proofs.Shares.{share-ends}
use Rattle.benches_laws.proofs.Plans.{plan-leg}
use Rattle.benches_laws.proofs.Sums.{none-fails, first-now, first-stays, First, first_so, AddedSo, added-all}

-- ---- ports and benches

-- 'a number of benches from 1 to 64', three counts for each
pub limits-hold : (most_benches ≡ 64) × (per_bench ≡ 3)
limits-hold = (refl, refl)

pub ports-good : (n : ℕ) → 2 ≤ n → n ≤ most_ports → in_size most_ports n ≡ true
unfolding in_size
ports-good n few many = within-true 2 most_ports n few many

-- ports that are not 2 to the most, and benches that are not 1 to 64, do not pass
pub ports-bad : (n : ℕ) → ¬ ((2 ≤ n) × (n ≤ most_ports)) → in_size most_ports n ≡ false
ports-bad n h = either (test (in_size most_ports n)) (λ p. absurd (h (size-within most_ports n (sym p) refl))) (λ p. p)

pub benches-bad : (k : ℕ) → ¬ Among most_benches k → one_of most_benches k ≡ false
benches-bad k h = either (test (one_of most_benches k)) (λ q. absurd (h (one-of most_benches k q))) (λ q. q)

-- what is refused nowhere is not refused at a bench
not_at : {A : Type 0} {i j b : ℕ} → ◌≡◌ {A = Told A} (refused i nowhere) (refused j (at_bench b)) → ⊥
not_at e = true≢false (cc)

module _ {A : Type 0} (n k : ℕ) (t : Told A) where
  pub ports-refused : in_size most_ports n ≡ false → refused 1 nowhere ≡ benched n k t
  unfolding benched sized
  ports-refused e = rw e refl

  pub benches-refused : in_size most_ports n ≡ true → one_of most_benches k ≡ false → refused 21 nowhere ≡ benched n k t
  unfolding benched sized
  benches-refused e f = rw (e, f) refl

  pub benched-on : in_size most_ports n ≡ true → one_of most_benches k ≡ true → t ≡ benched n k t
  unfolding benched sized
  benched-on e f = rw (e, f) refl

  -- what is accepted has good ports and good benches, and is accepted then
  pub benched-good : (a : A) → benched n k t ≡ accepted a → ((2 ≤ n) × (n ≤ most_ports)) × Among most_benches k × (t ≡ accepted a)
  benched-good a e =
      either (test (in_size most_ports n))
      (λ p. either (test (one_of most_benches k))
      (λ q. (size-within most_ports n (sym p) refl, one-of most_benches k q, benched-on p q ∙ e))
      (λ q. absurd (not-both (benches-refused p q ∙ e))))
      (λ p. absurd (not-both (ports-refused p ∙ e)))

  -- and so has what is refused at a bench
  pub benched-at : (i b : ℕ) → benched n k t ≡ refused i (at_bench b) → t ≡ refused i (at_bench b)
  benched-at i b e =
      either (test (in_size most_ports n))
      (λ p. either (test (one_of most_benches k))
      (λ q. benched-on p q ∙ e)
      (λ q. absurd (not_at (benches-refused p q ∙ e))))
      (λ p. absurd (not_at (ports-refused p ∙ e)))

-- ---- the share of a bench

module _ (n k b : ℕ) (e : in_size most_ports n ≡ true) (f : one_of most_benches k ≡ true) where
  pub bench-refused : k ≤ b → refused 22 nowhere ≡ share_of n k b
  unfolding share_of
  bench-refused h = sym (rw (le-ltb b k h) refl) ∙ benched-on n k (cond (ltb b k) (accepted (plan_of n k b)) (refused 22 nowhere)) e f

  pub share-told : b < k → accepted (plan_of n k b) ≡ share_of n k b
  unfolding share_of
  share-told h = sym (rw (lt-ltb b k h) refl) ∙ benched-on n k (cond (ltb b k) (accepted (plan_of n k b)) (refused 22 nowhere)) e f

-- what is told of a bench has good ports and good benches
pub share-good : (n k b : ℕ) (o : Option Leg) → share_of n k b ≡ accepted o → Good n k
unfolding share_of
share-good n k b o e =
    let B = benched-good n k (cond (ltb b k) (accepted (plan_of n k b)) (refused 22 nowhere)) o e in
    (B.0, B.1)

-- a run that is told is below 64 bits: it is one less than a share of the patterns
pub run_small : (n k b : ℕ) (l : Leg) → share_of n k b ≡ accepted (some l) → l.run < largest64
unfolding share_of
run_small n k b l e =
    let B = benched-good n k (cond (ltb b k) (accepted (plan_of n k b)) (refused 22 nowhere)) (some l) e in
    let few : (2 ≤ n) × (n ≤ most_ports) = B.0 in
    either (below? b k)
    (λ h.
    let told : plan_of n k b ≡ some l = accepted-once (rw (lt-ltb b k h) at B).2 in
    omega (arith, (plan-leg n k b l told).long, share-ends (count n) k (omega arith) b h, count_most n few.1))
    (λ h. absurd (not-both (rw (le-ltb b k h) at B).2))

-- ---- the sum of counts

module _ (total k : ℕ) (ns : List ℕ) where
  -- 27 at the first bench whose counts cannot be, whatever comes after it
  pub counts-refused : (b : ℕ) → b < k → first_not (bench_fits total k ns) b ≡ none → bench_fits total k ns b ≡ false → refused 27 (at_bench b) ≡ added_up total k ns
  unfolding added_up
  counts-refused b h e f = sym (ap (λ o. unless o (sums ns k)) (first-stays (bench_fits total k ns) (suc b) k b h (first-now (bench_fits total k ns) b e f)))

  -- or the sums
  pub counts-added : first_not (bench_fits total k ns) k ≡ none → accepted (sums ns k) ≡ added_up total k ns
  unfolding added_up
  counts-added e = sym (ap (λ o. unless o (sums ns k)) e)

  pub all-added : (covered opened errors bench : ℕ) → AddedSo total k ns covered opened errors bench → bench ≡ k
      → accepted (record { covered = covered; opened = opened; errors = errors }) ≡ added_up total k ns
  all-added covered opened errors bench A e =
      let all : AddedSo total k ns covered opened errors k = subst (AddedSo total k ns covered opened errors) e A in
      ap accepted (added-all total k ns covered opened errors all) ∙ counts-added all.none_yet

module _ (n k : ℕ) (ns : List ℕ) (e : in_size most_ports n ≡ true) (f : one_of most_benches k ≡ true) where
  pub numbers-refused : ¬ (length ns ≡ per_bench * k) → refused 21 nowhere ≡ sum_of n k ns
  unfolding sum_of
  numbers-refused h =
      sym (rw (ne_eqb (length ns) (per_bench * k) h) refl) ∙ benched-on n k (cond (eqb (length ns) (per_bench * k)) (added_up (count n) k ns) (refused 21 nowhere)) e f

  pub sum_told : length ns ≡ per_bench * k → added_up (count n) k ns ≡ sum_of n k ns
  unfolding sum_of
  sum_told h =
      sym (rw (eq-eqb (length ns) (per_bench * k) h) refl) ∙ benched-on n k (cond (eqb (length ns) (per_bench * k)) (added_up (count n) k ns) (refused 21 nowhere)) e f

  -- 27 at the first bench whose counts cannot be, and the sums where there is none
  pub first-refused : length ns ≡ per_bench * k → (b : ℕ) → First (bench_fits (count n) k ns) k b → sum_of n k ns ≡ refused 27 (at_bench b)
  first-refused h b F =
      let before : first_not (bench_fits (count n) k ns) b ≡ none = none-fails (bench_fits (count n) k ns) b F.2 in
      sym (counts-refused (count n) k ns b F.0 before F.1 ∙ sum_told h)

  pub sum_added : length ns ≡ per_bench * k → ((b : ℕ) → b < k → bench_fits (count n) k ns b ≡ true) → sum_of n k ns ≡ accepted (sums ns k)
  sum_added h all = sym (counts-added (count n) k ns (none-fails (bench_fits (count n) k ns) k all) ∙ sum_told h)

module _ (n k : ℕ) (ns : List ℕ) where
  -- 'of other lent numbers it is the plain sums': whatever is accepted
  pub sum-plain : (c : Counts) → sum_of n k ns ≡ accepted c → c ≡ sums ns k
  unfolding sum_of added_up
  sum-plain c e =
      by (eqb (length ns) (per_bench * k)) (first_not (bench_fits (count n) k ns) k)
      (benched-good n k (cond (eqb (length ns) (per_bench * k)) (added_up (count n) k ns) (refused 21 nowhere)) c e).2
    where
      by : (three : Bool) (o : Option ℕ) → cond three (unless o (sums ns k)) (refused 21 nowhere) ≡ accepted c → c ≡ sums ns k
      by true none x = sym (accepted-once x)
      by true (some b) x = absurd (not-both x)
      by false o x = absurd (not-both x)

  -- '27 for the first bench' whose counts cannot be: the bench at which it is told is that one
  pub sum_first : (b : ℕ) → sum_of n k ns ≡ refused 27 (at_bench b) → First (bench_fits (count n) k ns) k b
  unfolding sum_of added_up
  sum_first b e =
      first_so (bench_fits (count n) k ns) k b
      (by (eqb (length ns) (per_bench * k)) (first_not (bench_fits (count n) k ns) k)
      (benched-at n k (cond (eqb (length ns) (per_bench * k)) (added_up (count n) k ns) (refused 21 nowhere)) 27 b e))
    where
      by : (three : Bool) (o : Option ℕ) → cond three (unless o (sums ns k)) (refused 21 nowhere) ≡ refused 27 (at_bench b) → o ≡ some b
      by true none x = absurd (true≢false (cc))
      by true (some c) x = cc
      by false o x = absurd (not_at x)
