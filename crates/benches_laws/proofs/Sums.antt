-- Laws of the sums: the numbers of each bench in a list that has three for each in turn, the first bench that does not pass a test, and sums that stay small.
-- Assumes nothing.
use mathlib.Core.Path.{◌≡◌, refl, sym, ap, subst, ◌∙◌}
use mathlib.Core.Bool.{Bool, true, false, ◌&&◌}
use mathlib.Core.List.{List, ◌++◌}
use mathlib.Core.Option.{Option, none, some}
use Prim.Native.Nat.{ℕ, zero, suc, ◌+◌, ◌*◌, ◌≤◌, ◌<◌}
use native.Mathlib.Omega.{arith}
use lib.Dec.{leb}
use lib.ListN.{length, get_or, length-append, get_or-append}
use lib.Seq.{get_or-append-add}
use borrow.Author.Tests.{leb-true, le-leb, lt-leb}
use Rattle.listing.proofs.Numbers.{either, below?, test}
use Rattle.text_numbers.proofs.Inverse.{none-some}
use Rattle.promise.specs.Derangements.{most_errors}
use Rattle.promise.proofs.Tests.{clash}
use Rattle.benches_laws.specs.Shares.{together, in_turn, share, begins}
use Rattle.benches_laws.specs.Calls.{per_bench, covered_at, open_at, errors_at, Counts, sums, counts_fit, bench_fits, first_not}
use Rattle.benches_laws.proofs.Shares.{together-plus, together-most, together-alike, begins-most}

-- ---- three numbers for each bench

module _ (f : ℕ → List ℕ) (three : (b : ℕ) → length (f b) ≡ per_bench) where
  pub turns-long : (k : ℕ) → length (in_turn f k) ≡ per_bench * k
  unfolding in_turn
  turns-long zero = refl
  turns-long (suc k) = length-append (in_turn f k) (f k) ∙ omega (arith, turns-long k, three k)

  -- number i of bench b stands at its place
  pub turn_at : (k b i : ℕ) → b < k → i < per_bench → get_or (in_turn f k) (per_bench * b + i) 0 ≡ get_or (f b) i 0
  unfolding in_turn
  turn_at zero b i h l = absurd (omega arith)
  turn_at (suc k) b i h l =
      either (below? b k)
      (λ m. get_or-append (in_turn f k) (f k) 0 (per_bench * b + i) (omega (arith, turns-long k)) ∙ turn_at k b i m l)
      (λ m.
      let e : b ≡ k = omega arith in
      let place : per_bench * b + i ≡ length (in_turn f k) + i = omega (arith, turns-long k) in
      ap (λ j. get_or (in_turn f k ++ f k) j 0) place ∙ get_or-append-add (in_turn f k) (f k) i 0 ∙ ap (λ c. get_or (f c) i 0) (sym e))

-- ---- the first that does not pass

module _ (passes : ℕ → Bool) where
  -- none, where each passes
  pub none-fails : (k : ℕ) → ((b : ℕ) → b < k → passes b ≡ true) → first_not passes k ≡ none
  unfolding first_not
  none-fails zero h = refl
  none-fails (suc k) h = rw (none-fails k (λ b l. h b (omega arith)), h k (omega arith)) refl

  -- one more passes
  pub still-none : (k : ℕ) → first_not passes k ≡ none → passes k ≡ true → first_not passes (suc k) ≡ none
  unfolding first_not
  still-none k e t = rw (e, t) refl

  -- or it is the first that does not; and so it stays, whatever comes after it
  pub first-now : (k : ℕ) → first_not passes k ≡ none → passes k ≡ false → first_not passes (suc k) ≡ some k
  unfolding first_not
  first-now k e t = rw (e, t) refl

  pub first-stays : (j k b : ℕ) → j ≤ k → first_not passes j ≡ some b → first_not passes k ≡ some b
  unfolding first_not
  first-stays j zero b h e = absurd (none-some b (subst (λ i. first_not passes i ≡ some b) (zero-least j h) e))
    where
      zero-least : (i : ℕ) → i ≤ 0 → i ≡ 0
      zero-least i l = omega arith
  first-stays j (suc k) b h e =
      either (below? k j)
      (λ l. let d : j ≡ suc k = omega arith in subst (λ i. first_not passes i ≡ some b) d e)
      (λ l. rw (first-stays j k b l e) refl)

  -- where none is found, each passes
  pub all_pass : (k : ℕ) → first_not passes k ≡ none → (b : ℕ) → b < k → passes b ≡ true
  unfolding first_not
  all_pass zero e b h = absurd (omega arith)
  all_pass (suc k) e b h =
      let before : first_not passes k ≡ none = earlier (first_not passes k) refl in
      either (below? b k)
      (λ l. all_pass k before b l)
      (λ l. let at : b ≡ k = omega arith in subst (λ i. passes i ≡ true) (sym at) (either (test (passes k)) (λ t. t) (λ t. absurd (none-some k (sym e ∙ first-now k before t)))))
    where
      earlier : (o : Option ℕ) → first_not passes k ≡ o → first_not passes k ≡ none
      earlier none d = d
      earlier (some c) d = absurd (none-some c (sym e ∙ first-stays k (suc k) c (omega arith) d))

  -- one that is found is below k and does not pass, and each before it does
  abbrev pub First : ℕ → ℕ → Type 0
  First k b = (b < k) × (passes b ≡ false) × ((c : ℕ) → c < b → passes c ≡ true)

  pub first_so : (k b : ℕ) → first_not passes k ≡ some b → First k b
  unfolding first_not
  first_so zero b e = absurd (none-some b e)
  first_so (suc k) b e = by (first_not passes k) refl (first_so k b)
    where
      by : (o : Option ℕ) → first_not passes k ≡ o → (first_not passes k ≡ some b → First k b) → First (suc k) b
      by none d before =
          either (test (passes k))
          (λ t. absurd (none-some b (sym (still-none k d t) ∙ e)))
          (λ t.
          let found : some k ≡ some b = sym (first-now k d t) ∙ e in
          let at : k ≡ b = cc in
          (omega arith, subst (λ i. passes i ≡ false) at t, λ c h. all_pass k d c (omega arith)))
      by (some c) d before =
          let found : First k b = before (d ∙ sym (first-stays k (suc k) c (omega arith) d) ∙ e) in
          (omega (arith, found.0), found.1, found.2)

-- ---- counts that can be

pub fit-so : (marks covered opened errors : ℕ) → counts_fit marks covered opened errors ≡ true → (covered + opened ≤ marks) × (errors ≤ most_errors)
unfolding counts_fit
fit-so marks covered opened errors e = both (leb (covered + opened) marks) (leb errors most_errors) refl refl e
  where
    both : (x y : Bool) → leb (covered + opened) marks ≡ x → leb errors most_errors ≡ y → x && y ≡ true → (covered + opened ≤ marks) × (errors ≤ most_errors)
    both true true p q t = (leb-true _ _ p, leb-true _ _ q)
    both true false p q t = clash t refl
    both false y p q t = clash t refl

pub fits : (marks covered opened errors : ℕ) → covered + opened ≤ marks → errors ≤ most_errors → counts_fit marks covered opened errors ≡ true
unfolding counts_fit
fits marks covered opened errors h l = rw (le-leb _ _ h, le-leb _ _ l) refl

-- they cannot: more is closed than the marks
pub over-marks : (marks covered opened errors : ℕ) → marks < covered + opened → counts_fit marks covered opened errors ≡ false
unfolding counts_fit
over-marks marks covered opened errors h = rw (lt-leb _ _ h) refl

-- or the errors decide
pub errors-decide : (marks covered opened errors : ℕ) → covered + opened ≤ marks → counts_fit marks covered opened errors ≡ leb errors most_errors
unfolding counts_fit
errors-decide marks covered opened errors h = rw (le-leb _ _ h) refl

-- so the sums of the first benches are no more than their marks, and than the most errors for each
module _ (total k : ℕ) (ns : List ℕ) where
  pub sums-small : (j : ℕ) → first_not (bench_fits total k ns) j ≡ none
      → (together (covered_at ns) j + together (open_at ns) j ≤ begins total k j) × (together (errors_at ns) j ≤ most_errors * j)
  sums-small j e =
      let so : (b : ℕ) → b < j → (covered_at ns b + open_at ns b ≤ share total k b) × (errors_at ns b ≤ most_errors) =
      λ b h. fit-so (share total k b) (covered_at ns b) (open_at ns b) (errors_at ns b) (all_pass (bench_fits total k ns) j e b h) in (
        omega (arith, together-plus (covered_at ns) (open_at ns) j, together-most (λ b. covered_at ns b + open_at ns b) (share total k) j (λ b h. (so b h).0)),
        omega (arith, together-most (errors_at ns) (λ b. most_errors) j (λ b h. (so b h).1), together-alike most_errors j),
      )

-- ---- bench by bench

-- the first benches added up so far: the counts of each can be, and these are their sums
pub record AddedSo (total k : ℕ) (ns : List ℕ) (covered opened errors bench : ℕ) : Type 0 where
  pub none_yet : first_not (bench_fits total k ns) bench ≡ none
  pub covered_so : covered ≡ together (covered_at ns) bench
  pub opened_so : opened ≡ together (open_at ns) bench
  pub errors_so : errors ≡ together (errors_at ns) bench

module _ (total k : ℕ) (ns : List ℕ) where
  -- none yet
  pub added_none : AddedSo total k ns 0 0 0 0
  unfolding together first_not
  added_none = record { none_yet = refl; covered_so = refl; opened_so = refl; errors_so = refl }

  -- one bench more, whose three numbers stand at a place and were judged
  module _ (covered opened errors bench at marks : ℕ) (passed : Bool) (A : AddedSo total k ns covered opened errors bench) (place : at ≡ per_bench * bench)
      (own : marks ≡ share total k bench) (judged : passed ≡ counts_fit marks (get_or ns at 0) (get_or ns (at + 1) 0) (get_or ns (at + 2) 0)) where
    pub judged-so : passed ≡ bench_fits total k ns bench
    judged-so = judged ∙ rw (place, own) refl

    module _ (fit : passed ≡ true) where
      pub added_more : AddedSo total k ns (covered + get_or ns at 0) (opened + get_or ns (at + 1) 0) (errors + get_or ns (at + 2) 0) (bench + 1)
      unfolding together
      added_more =
          let next : bench + 1 ≡ suc bench = omega arith in
          rw (place, next) (record {
            none_yet = still-none (bench_fits total k ns) bench A.none_yet (sym judged-so ∙ fit);
            covered_so = ap (λ x. x + covered_at ns bench) A.covered_so;
            opened_so = ap (λ x. x + open_at ns bench) A.opened_so;
            errors_so = ap (λ x. x + errors_at ns bench) A.errors_so;
          })

      -- with which the sums stay small
      pub added-small : bench < k → (covered + get_or ns at 0 + (opened + get_or ns (at + 1) 0) ≤ total) × (errors + get_or ns (at + 2) 0 ≤ most_errors * (bench + 1))
      added-small h =
          let small = sums-small total k ns (bench + 1) added_more.none_yet in
          let ends : begins total k (bench + 1) ≤ total = begins-most total k (omega arith) (bench + 1) (omega arith) in
          (omega (arith, added_more.covered_so, added_more.opened_so, small.0), omega (arith, added_more.errors_so, small.1))

  -- all benches
  pub added-all : (covered opened errors : ℕ) → AddedSo total k ns covered opened errors k → ◌≡◌ {A = Counts} (record { covered = covered; opened = opened; errors = errors }) (sums ns k)
  unfolding sums
  added-all covered opened errors A = rw (A.covered_so, A.opened_so, A.errors_so) refl
