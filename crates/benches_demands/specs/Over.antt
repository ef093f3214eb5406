-- Request 8, 'One campaign over several benches', as one record over the definitions that its calls meet: a field for each sentence. The calls for C tell the
-- same (`benches_face.Contracts`).
-- Assumes nothing.
use Rattle.std.specs.Prelude.{ℕ, ◌*◌, ◌≤◌, ◌<◌, ◌≡◌, ◌↔◌, true, false, List, [], ◌∷◌, map, length}
use Rattle.std.proofs.Math.Option.{none, some}
use Rattle.listing.specs.Numbers.{Among}
use Rattle.listing.specs.Count.{count}
use Rattle.listing.specs.Listing.{listing, at}
use Rattle.listing.specs.Limits.{most_ports}
use Rattle.words.specs.Told.{accepted, refused, nowhere, at_bench}
use Rattle.promise.specs.Plan.{Leg}
use Rattle.plans.specs.Calls.{read_plan_of}
use Rattle.benches_laws.specs.Shares.{share, begins, Fair}
use Rattle.benches_laws.specs.Plans.{plan_of, one_plan, one_plan_text, named_by_all, from}
use Rattle.benches_laws.specs.Calls.{most_benches, Good, share_of, per_bench, Counts, sums, bench_fits, sum_of}
use Rattle.benches_laws.proofs.Plans.{LegOf}
use Rattle.benches_laws.specs.Union.{Union}
use Rattle.campaign_reached.specs.Turns.{Called}
use Rattle.face_state.specs.States.{state_count}
use Rattle.demands.specs.One.{Refuses}
use Rattle.benches_demands.specs.Calls.{on_bench, on_bench_in}

pub record OverBenches : Type 0 where
  -- ---- the shares
  -- 'takes a port count and a number of benches from 1 to 64, and gives each bench .. its own': what is told of each
  pub gives : (n k : ℕ) → Good n k → (b : ℕ) → b < k → share_of n k b ≡ accepted (plan_of n k b)
  -- 'from number 0 at rank 0 on, the start and run of its own one-leg forward plan': it starts where the shares before it end, and runs to the end of its own
  pub leg : (n k b : ℕ) (l : Leg) → plan_of n k b ≡ some l → LegOf (begins (count n) k b) (share (count n) k b) l
  pub first : (n k : ℕ) → begins (count n) k 0 ≡ 0
  -- which the plan reader accepts
  pub reads : (n k : ℕ) → Good n k → (b : ℕ) → b < k → (l : Leg) → plan_of n k b ≡ some l → read_plan_of (one_plan_text n l) ≡ accepted (one_plan n l)
  -- 'Together the plans name every pattern exactly once': bench after bench the ranks from 0 to the last, whose patterns are the list itself
  pub names : (n k : ℕ) → Good n k → named_by_all n k ≡ from 0 (count n)
  pub lists : (n k : ℕ) → Good n k → map (at n) (named_by_all n k) ≡ listing n
  -- 'Shares differ by at most one mark, the larger at the lower numbers'; and no other shares that are all the marks do
  pub fair : (n k : ℕ) → Good n k → Fair (count n) k (share (count n) k)
  pub no_other : (n k : ℕ) (s : ℕ → ℕ) → Fair (count n) k s → (b : ℕ) → b < k → s b ≡ share (count n) k b
  -- 'With more benches than patterns, the benches left over get no plan and the answer says so'
  pub left_over : (n k : ℕ) → Good n k → (b : ℕ) → b < k → (share_of n k b ≡ accepted none) ↔ (count n ≤ b)
  -- ---- the sums
  -- 'of other lent numbers it is the plain sums'
  pub plain : (n k : ℕ) (ns : List ℕ) (c : Counts) → sum_of n k ns ≡ accepted c → c ≡ sums ns k
  -- 'Where each three is what the calls on that bench's plan left in its state .., the answer must equal the sums over their own histories'; and the union: when
  -- every bench has ended, every derangement was met exactly once over all benches, repeats apart. Of any calls on each bench
  pub union : (n k : ℕ) → Good n k → (cs : ℕ → List Called) → Union n k (on_bench n k cs)
  -- the same of the calls for C, with the words of a state for each bench
  pub union_words : (n k : ℕ) → Good n k → (ws : ℕ → List ℕ) → ((b : ℕ) → length (ws b) ≡ state_count) → (cs : ℕ → List Called) → Union n k (on_bench_in n k ws cs)
  -- ---- 'Refusals: 1, then 21 .., then 22'
  pub share_refused : (n k b : ℕ) → Refuses (1 ∷ 21 ∷ 22 ∷ []) (share_of n k b)
  pub one : (n k : ℕ) → ¬ ((2 ≤ n) × (n ≤ most_ports)) → (b : ℕ) → share_of n k b ≡ refused 1 nowhere
  pub twenty_one : (n k : ℕ) → (2 ≤ n) × (n ≤ most_ports) → ¬ Among most_benches k → (b : ℕ) → share_of n k b ≡ refused 21 nowhere
  pub twenty_two : (n k : ℕ) → Good n k → (b : ℕ) → k ≤ b → share_of n k b ≡ refused 22 nowhere
  -- 'in adding up, after 1 and 21, 27 for the first bench whose covered plus open is above its share or whose errors are above 65,535': exactly then, at that bench
  pub sum_refused : (n k : ℕ) (ns : List ℕ) → Refuses (1 ∷ 21 ∷ 27 ∷ []) (sum_of n k ns)
  pub twenty_seven : (n k : ℕ) (ns : List ℕ) (b : ℕ) → sum_of n k ns ≡ refused 27 (at_bench b)
      → (b < k) × (bench_fits (count n) k ns b ≡ false) × ((c : ℕ) → c < b → bench_fits (count n) k ns c ≡ true)
  -- and whenever it is so, of numbers that are three each; where no bench is so, the sums
  pub twenty_seven_then : (n k : ℕ) → Good n k → (ns : List ℕ) → length ns ≡ per_bench * k → (b : ℕ) → b < k → bench_fits (count n) k ns b ≡ false
      → ((c : ℕ) → c < b → bench_fits (count n) k ns c ≡ true) → sum_of n k ns ≡ refused 27 (at_bench b)
  pub added : (n k : ℕ) → Good n k → (ns : List ℕ) → length ns ≡ per_bench * k → ((b : ℕ) → b < k → bench_fits (count n) k ns b ≡ true)
      → sum_of n k ns ≡ accepted (sums ns k)
  -- 1 and 21 before it; and 21 for '(or counts not three each)'
  pub sum_one : (n k : ℕ) → ¬ ((2 ≤ n) × (n ≤ most_ports)) → (ns : List ℕ) → sum_of n k ns ≡ refused 1 nowhere
  pub sum_twenty_one : (n k : ℕ) → (2 ≤ n) × (n ≤ most_ports) → ¬ Among most_benches k → (ns : List ℕ) → sum_of n k ns ≡ refused 21 nowhere
  pub not_three : (n k : ℕ) → Good n k → (ns : List ℕ) → ¬ (length ns ≡ per_bench * k) → sum_of n k ns ≡ refused 21 nowhere
