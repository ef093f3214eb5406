-- Request 8: the shares and their plans, the sums, the union of what was done on the benches, and the refusals (`over-benches`). Demand three holds of each
-- bench with a plan, by the contracts of the calls (`demands.Three`) and by the words and the bytes alone (`demands.Words`); so their union is what is promised.
-- Assumes nothing.
use mathlib.Core.Path.{◌≡◌, refl, sym, ap, subst, ◌∙◌}
use mathlib.Core.Logic.{inl, inr}
use mathlib.Core.Bool.{true}
use mathlib.Core.List.{List, [], ◌∷◌}
use mathlib.Core.Option.{Option, none, some}
use Prim.Native.Nat.{ℕ, ◌*◌, ◌≤◌, ◌<◌}
use lib.Dec.{eqb, ltb}
use lib.ListN.{length}
use Rattle.listing.specs.Count.{count}
use Rattle.listing.specs.Numbers.{Among}
use Rattle.listing.specs.Limits.{most_ports}
use Rattle.listing.proofs.Numbers.{of_test}
use Rattle.words.specs.Told.{Told, accepted, refused, nowhere, at_bench}
use Rattle.words.specs.Shape.{one_of}
use Rattle.words.proofs.Told.{accepted-once, each-accepted}
use Rattle.words.proofs.Shape.{among_one}
use Rattle.pattern_check.specs.Calls.{in_size}
use Rattle.promise.specs.Plan.{Leg}
use Rattle.campaign_state.specs.State.{width}
use Rattle.campaign_reached.specs.Turns.{AcceptedPlan, Called}
use Rattle.face_state.specs.States.{state_count}
use Rattle.demands.specs.One.{OneOf, Listed, Refuses}
use Rattle.demands.proofs.Numbers.{from-refused, from-sized}
use Rattle.demands.proofs.Three.{demand-left}
use Rattle.demands.proofs.Words.{demand-words}
use Rattle.benches_laws.specs.Shares.{together}
use Rattle.benches_laws.specs.Plans.{plan_of, one_plan, one_plan_text}
use Rattle.benches_laws.specs.Calls.{most_benches, Good, benched, share_of, per_bench, Counts, sums, bench_fits, first_not, unless, added_up, sum_of}
use Rattle.benches_laws.specs.Union.{Kept, Union}
use Rattle.benches_laws.proofs.Shares.{shares-fair, only-shares}
use Rattle.benches_laws.proofs.Plans.{plan-leg, left-over, plans-name, plans-list, plan-accepted}
use Rattle.benches_laws.proofs.Told.{ports-good, ports-bad, benches-bad, ports-refused, benches-refused, bench-refused, share-told, sum-plain, sum_first}
use Rattle.benches_laws.proofs.Told.{numbers-refused, first-refused, sum_added}
use Rattle.benches_laws.proofs.Union.{union}
use Rattle.benches_demands.specs.Calls.{text_of, did_on, did_in, on_bench, on_bench_in}
use Rattle.benches_demands.specs.Over.{OverBenches}

-- ---- the numbers of the refusals

-- 1 and then 21, before all else
benched-numbers : {A : Type 0} (ns : List ℕ) (n k : ℕ) (t : Told A) → OneOf ns 1 → OneOf ns 21 → Refuses ns t → Refuses ns (benched n k t)
unfolding benched
benched-numbers ns n k t one more h =
    from-sized ns most_ports n _ one (of_test (Refuses ns) (one_of most_benches k) t _ h (from-refused ns 21 nowhere refl more))

-- of a share, then 22
abbrev of_share : List ℕ
of_share = 1 ∷ 21 ∷ 22 ∷ []

share-numbers : (n k b : ℕ) → Refuses of_share (share_of n k b)
unfolding share_of
share-numbers n k b =
    benched-numbers of_share n k _ (inl refl) (inr (inl refl))
    (of_test (Refuses of_share) (ltb b k) _ _ (each-accepted (Listed of_share) _) (from-refused of_share 22 nowhere refl (inr (inr (inl refl)))))

-- of a sum, 21 for numbers that are not three each too, then 27
abbrev of_sum : List ℕ
of_sum = 1 ∷ 21 ∷ 27 ∷ []

unless-numbers : (o : Option ℕ) (s : Counts) → Refuses of_sum (unless o s)
unless-numbers none s = each-accepted (Listed of_sum) s
unless-numbers (some b) s = from-refused of_sum 27 (at_bench b) refl (inr (inr (inl refl)))

sum-numbers : (n k : ℕ) (ns : List ℕ) → Refuses of_sum (sum_of n k ns)
unfolding sum_of added_up
sum-numbers n k ns =
    benched-numbers of_sum n k _ (inl refl) (inr (inl refl))
    (of_test (Refuses of_sum) (eqb (length ns) (per_bench * k)) _ _
    (unless-numbers (first_not (bench_fits (count n) k ns) k) (sums ns k)) (from-refused of_sum 21 nowhere refl (inr (inl refl))))

-- ports, and then benches, that are refused
ports-one : (n k : ℕ) → ¬ ((2 ≤ n) × (n ≤ most_ports)) → (b : ℕ) → share_of n k b ≡ refused 1 nowhere
unfolding share_of
ports-one n k h b = sym (ports-refused n k _ (ports-bad n h))

benches-twenty-one : (n k : ℕ) → (2 ≤ n) × (n ≤ most_ports) → ¬ Among most_benches k → (b : ℕ) → share_of n k b ≡ refused 21 nowhere
unfolding share_of
benches-twenty-one n k p h b = sym (benches-refused n k _ (ports-good n p.0 p.1) (benches-bad k h))

sum-ports-one : (n k : ℕ) → ¬ ((2 ≤ n) × (n ≤ most_ports)) → (ns : List ℕ) → sum_of n k ns ≡ refused 1 nowhere
unfolding sum_of
sum-ports-one n k h ns = sym (ports-refused n k _ (ports-bad n h))

sum-benches-twenty-one : (n k : ℕ) → (2 ≤ n) × (n ≤ most_ports) → ¬ Among most_benches k → (ns : List ℕ) → sum_of n k ns ≡ refused 21 nowhere
unfolding sum_of
sum-benches-twenty-one n k p h ns = sym (benches-refused n k _ (ports-good n p.0 p.1) (benches-bad k h))

-- ---- ports and benches that are not refused

module _ (n k : ℕ) (good : Good n k) where
  ports : in_size most_ports n ≡ true
  ports = ports-good n good.0.0 good.0.1

  benches : one_of most_benches k ≡ true
  benches = among_one most_benches k good.1

  -- a bench's plan is told, or that it has none: exactly where it is left over
  told : (b : ℕ) → b < k → share_of n k b ≡ accepted (plan_of n k b)
  told b h = sym (share-told n k b ports benches h)

  told_none : (b : ℕ) → b < k → share_of n k b ≡ accepted none → count n ≤ b
  told_none b h e = (left-over n k b h).0 (accepted-once (sym (told b h) ∙ e))

  none_told : (b : ℕ) → b < k → count n ≤ b → share_of n k b ≡ accepted none
  none_told b h l = told b h ∙ ap accepted ((left-over n k b h).1 l)

  -- its text is accepted as its plan
  module _ (b : ℕ) (h : b < k) (l : Leg) (e : plan_of n k b ≡ some l) where
    abbrev plan : AcceptedPlan
    plan = record { text = one_plan_text n l; plan = one_plan n l; accepts = plan-accepted n k b good.0.0 good.0.1 h l e }

    -- so its campaign keeps demand three, whatever calls are made on it
    bench-kept : (cs : ℕ → List Called) → Kept n width l (on_bench n k cs b)
    bench-kept cs = subst (λ o. Kept n width l (did_on (text_of n o) (cs b))) (sym e) (demand-left plan (cs b))

    -- and by the words and the bytes alone
    words-kept : (ws : ℕ → List ℕ) → ((c : ℕ) → length (ws c) ≡ state_count) → (cs : ℕ → List Called) → Kept n width l (on_bench_in n k ws cs b)
    words-kept ws long cs = subst (λ o. Kept n width l (did_in (text_of n o) (ws b) (cs b))) (sym e) (demand-words plan (ws b) (long b) (cs b))

  -- the union
  union-kept : (cs : ℕ → List Called) → Union n k (on_bench n k cs)
  union-kept cs = union n k good.0.0 good.0.1 good.1 width (on_bench n k cs) (λ b h l e. bench-kept b h l e cs)

  union-words : (ws : ℕ → List ℕ) → ((b : ℕ) → length (ws b) ≡ state_count) → (cs : ℕ → List Called) → Union n k (on_bench_in n k ws cs)
  union-words ws long cs = union n k good.0.0 good.0.1 good.1 width (on_bench_in n k ws cs) (λ b h l e. words-kept b h l e ws long cs)

-- ---- request 8

pub over-benches : OverBenches
unfolding together
over-benches = record {
  gives = told;
  leg = plan-leg;
  first = λ n k. refl;
  reads = λ n k good b h l e. plan-accepted n k b good.0.0 good.0.1 h l e;
  names = λ n k good. plans-name n good.0.0 k good.1.0;
  lists = λ n k good. plans-list n good.0.0 k good.1.0;
  fair = λ n k good. shares-fair (count n) k good.1.0;
  no_other = λ n k s F b h. only-shares (count n) k s F b h;
  left_over = λ n k good b h. (told_none n k good b h, none_told n k good b h);
  plain = sum-plain;
  union = union-kept;
  union_words = union-words;
  share_refused = share-numbers;
  one = ports-one;
  twenty_one = benches-twenty-one;
  twenty_two = λ n k good b h. sym (bench-refused n k b (ports n k good) (benches n k good) h);
  sum_refused = sum-numbers;
  twenty_seven = sum_first;
  twenty_seven_then = λ n k good ns three b h f before. first-refused n k ns (ports n k good) (benches n k good) three b (h, f, before);
  added = λ n k good ns three all. sum_added n k ns (ports n k good) (benches n k good) three all;
  sum_one = sum-ports-one;
  sum_twenty_one = sum-benches-twenty-one;
  not_three = λ n k good ns h. sym (numbers-refused n k ns (ports n k good) (benches n k good) h);
}
