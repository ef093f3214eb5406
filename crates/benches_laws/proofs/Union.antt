-- The union of the benches: where each bench's campaign keeps demand three, the sums of their counts are the sums over their histories, and when all have ended
-- every derangement was met exactly once over all of them.
-- Assumes nothing.
use mathlib.Core.Path.{◌≡◌, refl, sym, ap, ap₂, subst, ◌∙◌}
use mathlib.Core.Bool.{Bool, true, false, cond}
use mathlib.Core.List.{List, [], ◌∷◌, ◌++◌, map, map-append}
use mathlib.Core.Option.{Option, none, some}
use Prim.Native.Nat.{ℕ, zero, suc, ◌+◌, ◌*◌, ◌≤◌, ◌<◌}
use native.Mathlib.Omega.{arith}
use lib.ListN.{length, get_or}
use Rattle.listing.specs.Pattern.{Derangement}
use Rattle.listing.specs.Count.{count}
use Rattle.listing.specs.Listing.{listing, at}
use Rattle.listing.specs.Numbers.{Among}
use Rattle.listing.specs.Limits.{most_ports}
use Rattle.listing.proofs.Numbers.{either, test}
use Rattle.listing.proofs.Places.{length-listing}
use Rattle.words.specs.Told.{accepted}
use Rattle.words.proofs.Shape.{among_one}
use Rattle.promise.specs.Plan.{Leg, Circuit, marks}
use Rattle.promise.specs.Campaign.{State, Answer, Setting, number_of}
use Rattle.promise.specs.Fitness.{Fit}
use Rattle.promise.specs.Derangements.{derangements, on_ports, most_errors}
use Rattle.promise.proofs.Legs.{number-below}
use Rattle.promise.proofs.Circuit.{ended-met}
use Rattle.promise.proofs.Derangements.{circuit-on}
use Rattle.benches_laws.specs.Shares.{together, in_turn, share, begins}
use Rattle.benches_laws.specs.Plans.{leg_from, plan_of, named_by}
use Rattle.benches_laws.specs.Calls.{most_benches, per_bench, covered_at, open_at, errors_at, Counts, sums, bench_fits}
use Rattle.benches_laws.specs.Union.{Did, Kept, counts_left, marks_run, marks_given_up, errors_told, panels_on, Ended, AllOnce, Union}
use Rattle.benches_laws.proofs.Shares.{together-same, together-plus, all-shared}
use Rattle.benches_laws.proofs.Plans.{plans-list}
use Rattle.benches_laws.proofs.Sums.{turns-long, turn_at, none-fails, fits}
use Rattle.benches_laws.proofs.Told.{ports-good, counts-added, sum_told}

-- two counts are the same where their numbers are
abbrev counted : ℕ → ℕ → ℕ → Counts
counted a b c = record { covered = a; opened = b; errors = c }

counts_same : {a b c x y z : ℕ} → a ≡ x → b ≡ y → c ≡ z → counted a b c ≡ counted x y z
counts_same p q r = rw (p, q, r) refl

-- ---- one bench

-- the marks of a plan; none without one
abbrev marks_of : Option Leg → ℕ
marks_of none = 0
marks_of (some l) = suc l.run

marks-from : (start many : ℕ) → marks_of (leg_from start many) ≡ many
marks-from start zero = refl
marks-from start (suc run) = refl

-- no more marks are closed than there are
closed-few : (C : Setting) (s : State) → Fit C s → s.covered + s.opened ≤ marks C.legs
closed-few C s fit =
    let by_end : (b : Bool) → s.ended ≡ b → s.covered + s.opened ≡ cond b (marks C.legs) (number_of C s) =
    λ b e. fit.counts ∙ ap (λ x. cond x (marks C.legs) (number_of C s)) e in
    either (test s.ended)
    (λ e. omega (arith, by_end true e))
    (λ e. omega (arith, by_end false e, number-below C.legs s.leg s.step fit.leg fit.step))

-- its state has what its history has
module _ (n : ℕ) (width : Answer → ℕ) (d : Did) where
  three : (o : Option Leg) → length (counts_left o d) ≡ per_bench
  three none = refl
  three (some l) = refl

  -- where a bench has a plan, demand three holds
  abbrev KeptOn : Option Leg → Type 0
  KeptOn o = (l : Leg) → o ≡ some l → Kept n width l d

  counts-run : (o : Option Leg) → KeptOn o → get_or (counts_left o d) 0 0 ≡ marks_run o d
  counts-run none h = refl
  counts-run (some l) h = (h l refl).covered_counts

  counts-given-up : (o : Option Leg) → KeptOn o → get_or (counts_left o d) 1 0 ≡ marks_given_up o d
  counts-given-up none h = refl
  counts-given-up (some l) h = (h l refl).open_reports

  counts-errors : (o : Option Leg) → KeptOn o → get_or (counts_left o d) 2 0 ≡ errors_told o d
  counts-errors none h = refl
  counts-errors (some l) h = (h l refl).error_reports

  -- no more than its marks are closed, and errors stop
  few-closed : (o : Option Leg) → KeptOn o → marks_run o d + marks_given_up o d ≤ marks_of o
  unfolding marks
  few-closed none h = omega arith
  few-closed (some l) h =
      let k = h l refl in
      omega (arith, k.covered_counts, k.open_reports, closed-few (on_ports n (l ∷ []) width) d.left k.left_fit)

  few-errors : (o : Option Leg) → KeptOn o → errors_told o d ≤ most_errors
  few-errors none h = omega arith
  few-errors (some l) h = let k = h l refl in omega (arith, k.error_reports, k.errors_stop)

  -- when it has ended, all of its marks are closed, and its panels were the patterns that its plan names
  all_closed : (o : Option Leg) → KeptOn o → Ended o d → marks_run o d + marks_given_up o d ≡ marks_of o
  unfolding marks
  all_closed none h e = refl
  all_closed (some l) h e = let k = h l refl in omega (arith, k.covered_counts, k.open_reports, k.finished_counts.0 e)

  panels-named : (o : Option Leg) → KeptOn o → Ended o d → panels_on n o d ≡ map (at n) (named_by n o)
  unfolding derangements
  panels-named none h e = refl
  panels-named (some l) h e = ended-met (on_ports n (l ∷ []) width) d.turned d.happened d.left (h l refl) e

-- ---- lists, bench after bench

turns_same : {A : Type 0} (f g : ℕ → List A) (k : ℕ) → ((b : ℕ) → b < k → f b ≡ g b) → in_turn f k ≡ in_turn g k
unfolding in_turn
turns_same f g zero h = refl
turns_same {A} f g (suc k) h = ap₂ {C = List A} (λ x y. x ++ y) (turns_same f g k (λ b l. h b (omega arith))) (h k (omega arith))

turns-map : {A B : Type 0} (m : A → B) (f : ℕ → List A) (k : ℕ) → in_turn (λ b. map m (f b)) k ≡ map m (in_turn f k)
unfolding in_turn
turns-map m f zero = refl
turns-map {A} {B} m f (suc k) = ap (λ (x : List B). x ++ map m (f k)) (turns-map m f k) ∙ sym (map-append m (in_turn f k) (f k))

-- ---- the list itself has every derangement once

list-once : (n : ℕ) → 2 ≤ n → (ps : List (List ℕ)) → ps ≡ listing n → AllOnce n ps
unfolding derangements at
list-once n ports ps e =
    let C : Circuit (derangements n) = circuit-on n ports in
    let long : length ps ≡ count n = ap length e ∙ length-listing n in
    let there : (r : ℕ) → get_or ps r [] ≡ at n r = λ r. ap (λ l. get_or l r []) e in
    record {
      in_order = e;
      each = λ p d.
          let c : (r : ℕ) × (r < count n) × (at n r ≡ p) = C.each p d in
          record {
            spot = c.0;
            inside = omega (arith, c.1);
            there = there c.0 ∙ c.2;
            only = λ i h q. C.apart i c.0 (omega arith) c.1 (sym (there i) ∙ q ∙ sym c.2);
          };
      no_other = λ i h. subst (Derangement n) (sym (there i)) (C.derangement i (omega arith));
      many = long;
    }

-- ---- all benches

module _ (n k : ℕ) (few : 2 ≤ n) (many : n ≤ most_ports) (benches : Among most_benches k) (width : Answer → ℕ) (D : ℕ → Did)
    (kept : (b : ℕ) → b < k → (l : Leg) → plan_of n k b ≡ some l → Kept n width l (D b)) where
  some-bench : 0 < k
  some-bench = benches.0

  abbrev counts : ℕ → List ℕ
  counts b = counts_left (plan_of n k b) (D b)

  abbrev lent : List ℕ
  lent = in_turn counts k

  threes : (b : ℕ) → length (counts b) ≡ per_bench
  threes b = three n width (D b) (plan_of n k b)

  plan-marks : (b : ℕ) → marks_of (plan_of n k b) ≡ share (count n) k b
  unfolding plan_of
  plan-marks b = marks-from (begins (count n) k b) (share (count n) k b)

  -- the three numbers of a bench are its own
  covered-own : (b : ℕ) → b < k → covered_at lent b ≡ marks_run (plan_of n k b) (D b)
  covered-own b h =
      let e : per_bench * b ≡ per_bench * b + 0 = omega arith in
      ap (λ i. get_or lent i 0) e ∙ turn_at counts threes k b 0 h (omega arith) ∙ counts-run n width (D b) (plan_of n k b) (kept b h)

  open_own : (b : ℕ) → b < k → open_at lent b ≡ marks_given_up (plan_of n k b) (D b)
  open_own b h = turn_at counts threes k b 1 h (omega arith) ∙ counts-given-up n width (D b) (plan_of n k b) (kept b h)

  errors-own : (b : ℕ) → b < k → errors_at lent b ≡ errors_told (plan_of n k b) (D b)
  errors-own b h = turn_at counts threes k b 2 h (omega arith) ∙ counts-errors n width (D b) (plan_of n k b) (kept b h)

  -- and can be
  own-fit : (b : ℕ) → b < k → bench_fits (count n) k lent b ≡ true
  own-fit b h =
      fits (share (count n) k b) (covered_at lent b) (open_at lent b) (errors_at lent b)
      (omega (arith, covered-own b h, open_own b h, few-closed n width (D b) (plan_of n k b) (kept b h), plan-marks b))
      (omega (arith, errors-own b h, few-errors n width (D b) (plan_of n k b) (kept b h)))

  own-sums : sums lent k ≡ counted
      (together (λ b. marks_run (plan_of n k b) (D b)) k)
      (together (λ b. marks_given_up (plan_of n k b) (D b)) k)
      (together (λ b. errors_told (plan_of n k b) (D b)) k)
  unfolding sums
  own-sums = counts_same
      (together-same (covered_at lent) (λ b. marks_run (plan_of n k b) (D b)) k covered-own)
      (together-same (open_at lent) (λ b. marks_given_up (plan_of n k b) (D b)) k open_own)
      (together-same (errors_at lent) (λ b. errors_told (plan_of n k b) (D b)) k errors-own)

  pub union : Union n k D
  union = record {
    sums =
        sym (sum_told n k lent (ports-good n few many) (among_one most_benches k benches) (turns-long counts threes k))
        ∙ sym (counts-added (count n) k lent (none-fails (bench_fits (count n) k lent) k own-fit))
        ∙ ap accepted own-sums;
    met = λ ended. list-once n few (in_turn (λ b. panels_on n (plan_of n k b) (D b)) k)
        (turns_same (λ b. panels_on n (plan_of n k b) (D b)) (λ b. map (at n) (named_by n (plan_of n k b))) k
        (λ b h. panels-named n width (D b) (plan_of n k b) (kept b h) (ended b h))
        ∙ turns-map (at n) (λ b. named_by n (plan_of n k b)) k
        ∙ plans-list n few k some-bench);
    whole = λ ended.
        sym (together-plus (λ b. marks_run (plan_of n k b) (D b)) (λ b. marks_given_up (plan_of n k b) (D b)) k)
        ∙ together-same (λ b. marks_run (plan_of n k b) (D b) + marks_given_up (plan_of n k b) (D b)) (share (count n) k) k
        (λ b h. all_closed n width (D b) (plan_of n k b) (kept b h) (ended b h) ∙ plan-marks b)
        ∙ all-shared (count n) k some-bench;
  }
