-- The lines of all benches: there is room for them, and each is put behind the one before (`line-room`, `line_on`, `lines-over`).
-- Assumes nothing.
use mathlib.Core.Path.{◌≡◌, refl, sym, ap, ◌∙◌}
use mathlib.Core.List.{List, ◌++◌}
use mathlib.Core.Option.{Option, none, some}
use Prim.Native.Nat.{ℕ, zero, suc, ◌+◌, ◌-◌, ◌*◌, ◌≤◌, ◌<◌}
use native.Mathlib.Omega.{arith}
use lib.ListN.{length, length-append}
use Rattle.listing.specs.Count.{count}
use Rattle.listing.specs.Limits.{largest64}
use Rattle.listing.proofs.Limits.{count_most}
use Rattle.words.specs.Told.{Told}
use Rattle.words.proofs.Shape.{among_one}
use Rattle.promise.specs.Plan.{Leg}
use Rattle.line_refusal.specs.Words.{quoted}
use Rattle.line_putting.specs.Putting.{Puts}
use Rattle.line_putting.proofs.Putting.{Going, going-room, going_on, going-over}
use Rattle.benches_laws.specs.Shares.{share, begins}
use Rattle.benches_laws.specs.Plans.{plan_of}
use Rattle.benches_laws.specs.Calls.{most_benches, Good, share_of}
use Rattle.benches_laws.proofs.Shares.{share-ends}
use Rattle.benches_laws.proofs.Plans.{LegOf, plan-leg}
use Rattle.benches_laws.proofs.Told.{ports-good, share-told}
use Rattle.benches_text.specs.Text.{ended, said, bench_line, bench_lines, most_answer}
use Rattle.benches_writing.specs.Lines.{share_line}
use Rattle.benches_writing.proofs.Short.{said-most}

-- ---- how long they are

-- the line of a bench has 79 bytes at most: three keys, three numbers and a newline
leg-most : (b : ℕ) (l : Leg) → b ≤ largest64 → l.start ≤ largest64 → l.run ≤ largest64 → length (bench_line b (some l)) ≤ 79
unfolding bench_line quoted
leg-most b l h i j =
    let x = said (quoted "bench=") b in
    let y = said (quoted " start=") l.start in
    let z = said (quoted " run=") l.run in
    omega (
      arith,
      length-append x (y ++ (z ++ ended)),
      length-append y (z ++ ended),
      length-append z ended,
      said-most (quoted "bench=") b h,
      said-most (quoted " start=") l.start i,
      said-most (quoted " run=") l.run j,
    )

pub none-most : (b : ℕ) → b ≤ largest64 → length (bench_line b none) ≤ 79
unfolding bench_line quoted
none-most b h =
    omega (arith, length-append (said (quoted "bench=") b) (quoted " none" ++ ended), said-most (quoted "bench=") b h)

module _ (n k : ℕ) (good : Good n k) where
  line-most : (b : ℕ) → b < k → (o : Option Leg) → plan_of n k b ≡ o → length (bench_line b o) ≤ 79
  line-most b h none e = none-most b (omega (arith, good.1.1))
  line-most b h (some l) e =
      let L : LegOf (begins (count n) k b) (share (count n) k b) l = plan-leg n k b l e in
      let ends : begins (count n) k b + share (count n) k b ≤ count n = share-ends (count n) k (omega (arith, good.1.0)) b h in
      let small = count_most n good.0.1 in
      leg-most b l (omega (arith, good.1.1)) (omega (arith, L.begins)) (omega (arith, L.long))

  lines-most : (b left : ℕ) → b + left ≤ k → length (bench_lines n k b left) ≤ 79 * left
  unfolding bench_lines
  lines-most b zero h = omega arith
  lines-most b (suc left) h =
      omega (
        arith,
        length-append (bench_line b (plan_of n k b)) (bench_lines n k (suc b) left),
        line-most b (omega arith) (plan_of n k b) refl,
        lines-most (suc b) left (omega arith),
      )

  -- so there is room for all
  pub all_short : length (bench_lines n k 0 k) ≤ most_answer
  all_short = omega (arith, lines-most 0 k (omega arith), good.1.1)

  pub all_room : (buf : List ℕ) → most_answer ≤ length buf → 0 + length (bench_lines n k 0 k) ≤ length buf
  all_room buf h = omega (arith, all_short)

  -- ---- one after the other

  -- what is told of a bench is its line
  pub share-line : (b : ℕ) → b < k → (told : Told (Option Leg)) → told ≡ share_of n k b → share_line b told ≡ bench_line b (plan_of n k b)
  share-line b h told e =
      ap (share_line b) (e ∙ sym (share-told n k b (ports-good n good.0.0 good.0.1) (among_one most_benches k good.1) h))

  module _ (all old : List ℕ) (at b left : ℕ) (buf : List ℕ) (G : Going 0 all old at (bench_lines n k b left) buf) where
    module _ (more : 0 < left) (within : b + left ≡ k) (told : Told (Option Leg)) (e : told ≡ share_of n k b) where
      next-line : bench_lines n k b left ≡ share_line b told ++ bench_lines n k (b + 1) (left - 1)
      unfolding bench_lines
      next-line = by left more within
        where
          by : (m : ℕ) → 0 < m → b + m ≡ k → bench_lines n k b m ≡ share_line b told ++ bench_lines n k (b + 1) (m - 1)
          by zero h w = absurd (omega arith)
          by (suc m) h w =
              let next : b + 1 ≡ suc b = omega arith in
              let less : suc m - 1 ≡ m = omega arith in
              rw (next, less) (ap (λ x. x ++ bench_lines n k (suc b) m) (sym (share-line b (omega arith) told e)))

      pub line-room : at + length (share_line b told) ≤ length buf
      line-room = going-room (share_line b told) (bench_lines n k (b + 1) (left - 1)) G next-line

      pub line_on : (after : ℕ) (left' : List ℕ) → Puts at (share_line b told) buf after left' → Going 0 all old after (bench_lines n k (b + 1) (left - 1)) left'
      line_on after left' P = going_on (share_line b told) (bench_lines n k (b + 1) (left - 1)) G next-line P

    -- none is left
    pub lines-over : left ≡ 0 → Puts 0 all old at buf
    unfolding bench_lines
    lines-over h = going-over G (ap (bench_lines n k b) h)
