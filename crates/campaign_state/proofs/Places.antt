-- What is known of a state whose plan and unused places are within the rules.
-- Assumes nothing.
use mathlib.Core.Path.{◌≡◌, refl, sym, ap, ◌∙◌}
use mathlib.Core.Logic.{◌≢◌}
use mathlib.Core.Bool.{true, false, and-eq-true_iff}
use mathlib.Core.List.{List, [], ◌∷◌}
use Prim.Native.Nat.{ℕ, zero, suc, ◌+◌, ◌≤◌, ◌<◌}
use native.Mathlib.Numerals.{add-one}
use native.Mathlib.Omega.{arith}
use lib.Dec.{eqb}
use lib.ListN.{length, get_or, take, drop, drop_of_length-le}
use lib.Seq.{drop-cons, length-take-le}
use borrow.Author.Tests.{eq-eqb, ne_eqb}
use Rattle.listing.specs.Count.{count}
use Rattle.listing.specs.Listing.{at}
use Rattle.listing.specs.Limits.{most_ports, most_legs, largest64}
use Rattle.listing.proofs.Ranks.{at-derangement}
use Rattle.promise.specs.Tests.{same}
use Rattle.promise.specs.Plan.{leg_at, stepped, marks}
use Rattle.promise.specs.Campaign.{to_come, found, here, rank_of, number_of, wanted, todo}
use Rattle.promise.specs.Derangements.{derangements}
use Rattle.promise.proofs.Tests.{Tells, tells-and, tells-eqb, tells-same}
use Rattle.promise.proofs.Ways.{way-over}
use Rattle.promise.proofs.Derangements.{lawful-on}
use Rattle.pattern_carry.specs.Panels.{wrong_from}
use Rattle.words.specs.declared.Leg.{Leg}
use Rattle.campaign_way.proofs.Differ.{same-wrong}
use Rattle.campaign_way.proofs.Walks.{walk-listed}
use Rattle.plan_rules.specs.Planned.{LegFits, device}
use Rattle.plan_rules.proofs.Held.{each_fits}
use Rattle.plan_rules.specs.Rules.{legs_of, Beyond, Ruled, plan_ruled}
use Rattle.plan_rules.proofs.Rules.{ruled, legs-many, beyond-here, beyond-later, beyond-rest, beyond-all}
use Rattle.plan_rules.proofs.Marks.{marks-more, marks-fit, marks-all, number-before}
use Rattle.campaign_state.specs.State.{setting_of, moment_of}
use Rattle.campaign_state.specs.Fitness.{empty_from, places_fit, InPlan, IsLeg}
use Rattle.campaign_state.specs.declared.State.{State}

-- ---- the unused places of the panel

-- from place k on, those are left
pub empty-from : (k : ℕ) (l : List ℕ) → empty_from k l ≡ empty_from 0 (drop k l)
unfolding empty_from
empty-from zero l = refl
empty-from (suc k) [] = refl
empty-from (suc k) (x ∷ l) = empty-from k l

-- the loop over them: those before `at` are 0, so those from there on decide
module _ (l : List ℕ) (at : ℕ) where
  pub empty-on : at < length l → get_or l at 0 ≡ 0 → empty_from 0 (drop at l) ≡ empty_from 0 (drop (at + 1) l)
  unfolding empty_from
  empty-on h e = rw (drop-cons l at 0 h, eq-eqb (get_or l at 0) 0 e, add-one at) refl

  pub empty-not : at < length l → get_or l at 0 ≢ 0 → empty_from 0 (drop at l) ≡ false
  unfolding empty_from
  empty-not h e = rw (drop-cons l at 0 h, ne_eqb (get_or l at 0) 0 e) refl

  pub empty-end : length l ≤ at → empty_from 0 (drop at l) ≡ true
  unfolding empty_from
  empty-end h = ap (empty_from 0) (drop_of_length-le l h)

-- the test tells the sentence
pub tells-empty : (k : ℕ) (l : List ℕ) → Tells (empty_from k l) (Beyond k 0 l)
unfolding empty_from
tells-empty zero [] = (λ e i a b. absurd (omega arith), λ h. refl)
tells-empty (suc k) [] = (λ e i a b. absurd (omega arith), λ h. refl)
tells-empty zero (x ∷ l) =
    let both = tells-and _ _ (tells-eqb x 0) (tells-empty zero l) in
    (λ e. beyond-here 0 x l (both.0 e).0 (both.0 e).1, λ h. both.1 (beyond-all 0 x l h))
tells-empty (suc k) (x ∷ l) =
    let rest = tells-empty k l in
    (λ e. beyond-later k 0 x l (rest.0 e), λ h. rest.1 (beyond-rest k 0 x l h))

-- ---- plan and places

-- a state has places for 16 legs and 20 ports
pub record Sized (s : State) : Type 0 where
  pub starts : length s.plan.starts ≡ most_legs
  pub runs : length s.plan.runs ≡ most_legs
  pub panel : length s.panel ≡ most_ports

module _ (s : State) (z : Sized s) (e : places_fit s ≡ true) where
  parts : (plan_ruled device s.plan ≡ true) × (empty_from s.plan.ports s.panel ≡ true)
  unfolding places_fit
  parts = (and-eq-true_iff (plan_ruled device s.plan) (empty_from s.plan.ports s.panel)).0 e

  -- the plan is within the rules
  pub plan-ruled : plan_ruled device s.plan ≡ true
  plan-ruled = parts.0

  pub rules : Ruled device s.plan
  rules = ruled device s.plan z.starts z.runs plan-ruled

  pub many-legs : length (legs_of s.plan) ≡ s.plan.legs
  many-legs = legs-many device s.plan z.starts z.runs plan-ruled

  -- the leg in hand fits
  pub leg-fits : (i : ℕ) → i < length (legs_of s.plan) → LegFits (count s.plan.ports) (leg_at (legs_of s.plan) i)
  leg-fits i h = each_fits (count s.plan.ports) (legs_of s.plan) rules.fits.each i h

-- ---- a state at a leg and a step of its plan

module _ (s : State) (z : Sized s) (I : InPlan s) where
  -- the ports and the leg in hand
  pub few-ports : (2 ≤ s.plan.ports) × (s.plan.ports ≤ most_ports)
  few-ports = let f = (rules s z I.places).fits in (f.few_ports, f.many_ports)

  pub leg-below : s.leg < s.plan.legs
  leg-below = omega (arith, I.leg, many-legs s z I.places)

  pub few-legs : s.plan.legs ≤ most_legs
  few-legs = omega (arith, (rules s z I.places).fits.many_legs, many-legs s z I.places)

  hand : LegFits (count s.plan.ports) (here (setting_of s) (moment_of s))
  hand = leg-fits s z I.places s.leg I.leg

  pub step-below : s.step < count s.plan.ports
  step-below = omega (arith, I.step, hand.run)

  pub start-below : (here (setting_of s) (moment_of s)).start < count s.plan.ports
  start-below = hand.start

  -- the number of the standing or next mark is below the largest number
  pub number-room : marks (take s.leg (legs_of s.plan)) + s.step < largest64
  number-room =
      let more = marks-more (legs_of s.plan) s.leg _ _ I.leg refl refl in
      let fits = marks-fit s.plan (rules s z I.places) (s.leg + 1) (omega (arith, leg-below, few-legs)) in
      omega (arith, more, fits, I.step)

  -- it is that of the marks of the legs before, and the step
  pub number-so : marks (take s.leg (legs_of s.plan)) + s.step ≡ number_of (setting_of s) (moment_of s)
  number-so = sym (number-before (legs_of s.plan) s.leg s.step I.leg)

  -- the marks of all legs are the plan's
  pub all-marks : marks (take s.plan.legs (legs_of s.plan)) ≡ marks (legs_of s.plan)
  all-marks = marks-all (legs_of s.plan) s.plan.legs (sym (many-legs s z I.places))

  -- the panel has the pattern of the mark exactly if no jack is wrong (t: that pattern, r: its rank, w: the first wrong jack)
  pub same-pattern : (l : Leg) → IsLeg s l → (r : ℕ) (t : List ℕ) (w : ℕ)
      → r ≡ stepped (derangements s.plan.ports) l.back l.start s.step → r < count s.plan.ports → t ≡ at s.plan.ports r
      → w ≡ wrong_from s.plan.ports 1 (take s.plan.ports s.panel) t → eqb w 0 ≡ same (moment_of s).panel (wanted (setting_of s) (moment_of s))
  unfolding derangements
  same-pattern l e r t w er h et ew =
      let n = s.plan.ports in
      let rank : r ≡ rank_of (setting_of s) (moment_of s) = er ∙ ap (λ h. stepped (derangements n) h.back h.start s.step) e in
      let long : length t ≡ n = ap length et ∙ (at-derangement n r h).permutation.long in
      ap (λ x. eqb x 0) ew
      ∙ sym (same-wrong n (take n s.panel) t (length-take-le n s.panel (omega (arith, few-ports, z.panel))) long)
      ∙ ap (λ q. same (take n s.panel) q) (et ∙ ap (at n) rank)

  -- where the panel has it, nothing is to come before the mark
  pub pattern-over : same (moment_of s).panel (wanted (setting_of s) (moment_of s)) ≡ true → found (todo (setting_of s) (moment_of s)) ≡ true
  unfolding derangements
  pattern-over e =
      let n = s.plan.ports in
      let l = here (setting_of s) (moment_of s) in
      ap found (ap (to_come (derangements n) l s.step) ((tells-same (moment_of s).panel (wanted (setting_of s) (moment_of s))).0 e)
      ∙ way-over (derangements n) (lawful-on n few-ports.0) l s.step (λ i h. walk-listed n few-ports.0 l.start l.back i start-below))

  -- the same start, of the leg l in hand
  pub start-listed : (l : Leg) → IsLeg s l → l.start < count s.plan.ports
  start-listed l e = rw (ap (λ h. h.start) e) start-below
