-- A row is made from the one before it place by place, from the last down by sums, and the other way from the first up by differences.
-- Assumes nothing.
use mathlib.Core.Path.{◌≡◌, sym, ap₂, ◌∙◌}
use mathlib.Core.List.{List}
use Prim.Native.Nat.{ℕ, zero, suc, ◌+◌, ◌-◌, ◌≤◌, ◌<◌}
use native.Mathlib.Omega.{arith}
use native.Mathlib.Nat.{le_trans}
use lib.Dec.{lit≤}
use lib.ListN.{length, get_or, set, length-set}
use lib.Seq.{get_or-set_same, get_or-set_other}
use Rattle.listing.specs.Numbers.{before}
use Rattle.listing.specs.Count.{count}
use Rattle.listing.specs.Limits.{most_ports, largest64}
use Rattle.listing.proofs.Numbers.{either, same?}
use Rattle.listing_dictionary.specs.Completions.{completions}
use Rattle.listing_dictionary.proofs.Completions.{product, product-grows, one_way, completions-count, completions-row, completions-most}
use Rattle.dictionary_walk.specs.Rows.{Row, Between}

-- the completions of up to 20 jacks fit 64 bits
pub completions-fit : (m k : ℕ) → m ≤ most_ports → k ≤ m → completions m k ≤ largest64
unfolding product
completions-fit m k h b =
    let fits : product most_ports ≤ largest64 = lit≤ tt in
    le_trans (completions-most m k b) (le_trans (product-grows m most_ports h) fits)

-- the row of no jacks: there is one way
pub row-none : (row : List ℕ) → length row ≡ most_ports → get_or row 0 0 ≡ 1 → Row 0 row
row-none row long e = record { long = long; ways = one }
  where
    one : (k : ℕ) → k ≤ 0 → get_or row k 0 ≡ completions 0 k
    one zero h = e ∙ sym one_way
    one (suc k) h = absurd (omega arith)

-- ---- the ends of the way

-- the row of m jacks with the count after it is on the way to the next
pub between-last : (m k x : ℕ) (row : List ℕ) → suc m ≡ k → k < most_ports → x ≡ count k → Row m row → Between (suc m) k (set row k x)
between-last m k x row next room e R =
    record {
      long = length-set row k x ∙ R.long;
      fewer = λ i b. get_or-set_other row k i x 0 (λ f. omega arith) ∙ R.ways i (omega arith);
      more = λ i a b.
          let i-k : i ≡ k = omega arith in
          rw (i-k, next) (get_or-set_same row k x 0 (rw R.long room) ∙ e ∙ sym (completions-count k));
    }

pub between_first : (m : ℕ) (row : List ℕ) → Row m row → Between m 0 row
between_first m row R = record { long = R.long; fewer = λ i b. absurd (omega arith); more = λ i a b. R.ways i b }

pub between_more : (m : ℕ) (row : List ℕ) → Between m 0 row → Row m row
between_more m row B = record { long = B.long; ways = λ k h. B.more k (omega arith) h }

pub between-fewer : (m : ℕ) (row : List ℕ) → Between m m row → Row (before m) row
between-fewer zero row B = record { long = B.long; ways = λ k h. B.more k (omega arith) h }
between-fewer (suc m) row B = record { long = B.long; ways = λ k h. B.fewer k (omega arith) }

-- ---- one place on, between place j and the next, k

-- what stands at a place is what stands at the next and what stood there in the row of one less
pair : (m j k : ℕ) → suc j ≡ k → j < m → completions m j ≡ completions m k + completions (before m) j
pair zero j k e h = absurd (omega arith)
pair (suc m) j k e h = rw (← e) (completions-row m j (omega arith))

module _ (m j k : ℕ) (row : List ℕ) (next : suc j ≡ k) (low : j < m) (most : m < most_ports) where
  -- down: the sum
  pub between-down : Between m k row → Between m j (set row j (get_or row j 0 + get_or row k 0))
  between-down B =
      record {
        long = length-set row j _ ∙ B.long;
        fewer = λ i b. get_or-set_other row j i _ 0 (λ e. omega arith) ∙ B.fewer i (omega arith);
        more = λ i a b.
            either (same? i j)
            (λ e.
            rw e
            (get_or-set_same row j _ 0 (rw B.long (omega arith))
            ∙ ap₂ (λ (x y : ℕ). x + y) (B.fewer j (omega arith)) (B.more k (omega arith) (omega arith))
            ∙ omega (arith, pair m j k next low)))
            (λ ne. get_or-set_other row j i _ 0 ne ∙ B.more i (omega arith) b);
      }

  pub down_fits : Between m k row → get_or row j 0 + get_or row k 0 ≤ largest64
  down_fits B =
      rw (B.fewer j (omega arith), B.more k (omega arith) (omega arith))
      (omega (arith, pair m j k next low, completions-fit m j (omega arith) (omega arith)))

  -- up: the difference
  pub between-up : Between m j row → Between m k (set row j (get_or row j 0 - get_or row k 0))
  between-up B =
      record {
        long = length-set row j _ ∙ B.long;
        fewer = λ i b.
            either (same? i j)
            (λ e.
            rw e
            (get_or-set_same row j _ 0 (rw B.long (omega arith))
            ∙ ap₂ (λ (x y : ℕ). x - y) (B.more j (omega arith) (omega arith)) (B.more k (omega arith) (omega arith))
            ∙ omega (arith, pair m j k next low)))
            (λ ne. get_or-set_other row j i _ 0 ne ∙ B.fewer i (omega arith));
        more = λ i a b. get_or-set_other row j i _ 0 (λ e. omega arith) ∙ B.more i (omega arith) b;
      }

  pub up_fits : Between m j row → get_or row k 0 ≤ get_or row j 0
  up_fits B = rw (B.more j (omega arith) (omega arith), B.more k (omega arith) (omega arith)) (omega (arith, pair m j k next low))
