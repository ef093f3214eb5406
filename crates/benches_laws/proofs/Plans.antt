-- Laws of the plans: bench after bench they name the ranks from 0 to the last, each once, and so their patterns are the list itself; each plan's text is one
-- that the plan reader accepts; a bench has a plan exactly if its share is not none.
-- Assumes nothing.
use mathlib.Core.Path.{◌≡◌, refl, sym, ap, ap₂, subst, ◌∙◌}
use mathlib.Core.Bool.{false}
use mathlib.Core.Logic.{◌↔◌}
use mathlib.Core.List.{List, [], ◌∷◌, ◌++◌, append-nil, map}
use mathlib.Core.Option.{none, some}
use Prim.Native.Nat.{ℕ, zero, suc, ◌+◌, ◌-◌, ◌≤◌, ◌<◌}
use native.Mathlib.Omega.{arith}
use lib.ListN.{length, get_or}
use Rattle.listing.specs.Count.{count}
use Rattle.listing.specs.Limits.{most_ports}
use Rattle.listing.specs.Listing.{listing, at}
use Rattle.listing.proofs.Numbers.{either, is-cases}
use Rattle.listing.proofs.Places.{length-listing}
use Rattle.promise.specs.Plan.{Family, Circuit, Leg, walk, ranks}
use Rattle.promise.specs.Derangements.{derangements}
use Rattle.promise.proofs.Tests.{clash}
use Rattle.promise.proofs.Derangements.{circuit-on}
use Rattle.words.specs.Told.{accepted}
use Rattle.text_numbers.proofs.Inverse.{none-some}
use Rattle.plan_rules.specs.Planned.{Fits, device}
use Rattle.plans.specs.Calls.{read_plan_of}
use Rattle.plans.proofs.Plans.{fits-accepted}
use Rattle.plans.proofs.Longest.{device-wide}
use Rattle.benches_laws.specs.Shares.{together, in_turn, share, begins}
use Rattle.benches_laws.specs.Plans.{leg_from, plan_of, one_plan, one_plan_text, named_by, named_by_all, from}
use Rattle.benches_laws.proofs.Shares.{all-shared, share-ends, share-none}

-- ---- ranks in a row

from_more : (r a b s : ℕ) → r + a ≡ s → from r (a + b) ≡ from r a ++ from s b
unfolding from
from_more r zero b s e = let d : 0 + b ≡ b = omega arith in let f : s ≡ r = omega arith in rw (d, f) refl
from_more r (suc a) b s e =
    let d : suc a + b ≡ suc (a + b) = omega arith in
    rw d (ap {B = List ℕ} (λ l. r ∷ l) (from_more (suc r) a b s (omega arith)))

-- a forward walk that stays within the list names ranks in a row
walk_from : (F : Family) → Circuit F → (r k : ℕ) → r + k < F.size → walk F false r k ≡ from r (suc k)
unfolding walk from
walk_from F circuit r zero h = refl
walk_from F circuit r (suc k) h =
    let next : F.neighbour false r ≡ suc r =
    circuit.on r (omega arith) ∙ either (is-cases (suc r) F.size 0 (suc r)) (λ c. absurd (omega (arith, c.0))) (λ c. c.1) in
    ap {B = List ℕ} (λ l. r ∷ l) (ap (λ q. walk F false q k) next ∙ walk_from F circuit (suc r) k (omega arith))

-- the list at each of its places in a row is the list
listed-so : (l : List (List ℕ)) (f : ℕ → List ℕ) (r : ℕ) → ((i : ℕ) → i < length l → f (r + i) ≡ get_or l i []) → map f (from r (length l)) ≡ l
unfolding from
listed-so [] f r h = refl
listed-so (p ∷ l) f r h =
    let here : f r ≡ p = let e : r + 0 ≡ r = omega arith in sym (ap f e) ∙ h 0 (omega arith) in
    ap₂ {C = List (List ℕ)} (λ q m. q ∷ m) here
    (listed-so l f (suc r) (λ i k. let e : suc r + i ≡ r + suc i = omega arith in ap f e ∙ h (suc i) (omega arith)))

-- ---- the ranks of a bench

module _ (n : ℕ) (ports : 2 ≤ n) where
  -- a leg of so many marks names so many ranks from its start on; none names none
  leg-names : (start marks : ℕ) → start + marks ≤ count n → named_by n (leg_from start marks) ≡ from start marks
  unfolding ranks from derangements
  leg-names start zero h = refl
  leg-names start (suc run) h =
      append-nil (walk (derangements n) false start run) ∙ walk_from (derangements n) (circuit-on n ports) start run (omega arith)

  module _ (k : ℕ) (some : 0 < k) where
    -- the plan of a bench names its share, from where it begins
    pub bench-names : (b : ℕ) → b < k → named_by n (plan_of n k b) ≡ from (begins (count n) k b) (share (count n) k b)
    unfolding plan_of
    bench-names b h = leg-names (begins (count n) k b) (share (count n) k b) (share-ends (count n) k some b h)

    -- the first benches name the ranks from 0 on, one after the other
    first-name : (j : ℕ) → j ≤ k → in_turn (λ b. named_by n (plan_of n k b)) j ≡ from 0 (begins (count n) k j)
    unfolding in_turn together from
    first-name zero h = refl
    first-name (suc j) h =
        ap₂ {C = List ℕ} (λ x y. x ++ y) (first-name j (omega arith)) (bench-names j (omega arith))
        ∙ sym (from_more 0 (begins (count n) k j) (share (count n) k j) (begins (count n) k j) (omega arith))

    -- 'Together the plans name every pattern exactly once': bench after bench the ranks from 0 to the last, each once
    pub plans-name : named_by_all n k ≡ from 0 (count n)
    plans-name = first-name k (omega arith) ∙ ap (from 0) (all-shared (count n) k some)

    -- so their patterns are the list itself
    pub plans-list : map (at n) (named_by_all n k) ≡ listing n
    unfolding at
    plans-list =
        ap (map (at n)) (plans-name ∙ ap (from 0) (sym (length-listing n)))
        ∙ listed-so (listing n) (at n) 0 (λ i h. let e : 0 + i ≡ i = omega arith in ap (at n) e)

-- ---- the plan of a bench

-- a leg of so many marks: forward, from its start, its run one less
pub record LegOf (start marks : ℕ) (l : Leg) : Type 0 where
  pub begins : l.start ≡ start
  pub forward : l.back ≡ false
  pub long : suc l.run ≡ marks

leg-of : (start marks : ℕ) (l : Leg) → leg_from start marks ≡ some l → LegOf start marks l
leg-of start zero l e = absurd (none-some l e)
leg-of start (suc run) l e =
    let leg : record { start = start; back = false; run = run } ≡ l = cc in
    subst (LegOf start (suc run)) leg (record { begins = refl; forward = refl; long = refl })

pub plan-leg : (n k b : ℕ) (l : Leg) → plan_of n k b ≡ some l → LegOf (begins (count n) k b) (share (count n) k b) l
unfolding plan_of
plan-leg n k b l e = leg-of (begins (count n) k b) (share (count n) k b) l e

-- no marks, and so many
pub leg-zero : (start marks : ℕ) → marks < 1 → leg_from start marks ≡ none
leg-zero start zero h = refl
leg-zero start (suc run) h = absurd (omega arith)

pub leg-some : (start marks : ℕ) → 1 ≤ marks → leg_from start marks ≡ some (record { start = start; back = false; run = marks - 1 })
leg-some start zero h = absurd (omega arith)
leg-some start (suc run) h = let e : suc run - 1 ≡ run = omega arith in rw e refl

leg-none : (start marks : ℕ) → (leg_from start marks ≡ none) ↔ (marks ≡ 0)
leg-none start zero = (λ e. refl, λ e. refl)
leg-none start (suc run) = (λ e. cc, λ e. absurd (omega arith))

-- 'With more benches than patterns, the benches left over get no plan': a bench has none exactly if its number is not below the count
pub left-over : (n k b : ℕ) → b < k → (plan_of n k b ≡ none) ↔ (count n ≤ b)
unfolding plan_of
left-over n k b h =
    let marks : (share (count n) k b ≡ 0) ↔ (count n ≤ b) = share-none (count n) k b h in
    let leg : (leg_from (begins (count n) k b) (share (count n) k b) ≡ none) ↔ (share (count n) k b ≡ 0) = leg-none (begins (count n) k b) (share (count n) k b) in
    (λ e. marks.0 (leg.0 e), λ e. leg.1 (marks.1 e))

-- ---- the text of a plan

module _ (n k b : ℕ) (few : 2 ≤ n) (many : n ≤ most_ports) (h : b < k) (l : Leg) (e : plan_of n k b ≡ some l) where
  plan-fits : Fits device (one_plan n l)
  plan-fits =
      let L : LegOf (begins (count n) k b) (share (count n) k b) l = plan-leg n k b l e in
      let ends : begins (count n) k b + share (count n) k b ≤ count n = share-ends (count n) k (omega arith) b h in
      record {
        few_ports = few;
        many_ports = many;
        few_legs = omega arith;
        many_legs = omega arith;
        each = (record { start = omega (arith, L.begins, L.long); run = omega (arith, L.begins, L.long); behind = λ x. absurd (clash x L.forward) }, tt);
      }

  -- its text is one that the plan reader accepts: as this plan of one leg
  pub plan-accepted : read_plan_of (one_plan_text n l) ≡ accepted (one_plan n l)
  plan-accepted = fits-accepted device 1 (one_plan n l) device-wide plan-fits

-- ---- known plans

-- the one pattern of 2 ports over 3 benches
pub two-over-three : map (plan_of 2 3) (0 ∷ 1 ∷ 2 ∷ []) ≡ some (record { start = 0; back = false; run = 0 }) ∷ none ∷ none ∷ []
unfolding plan_of share together count
two-over-three = refl
