-- The test of a plan's places tells the paper's rules exactly (`tells-ruled`). At the front, the loop over the places.
-- Assumes nothing.
use mathlib.Core.Path.{◌≡◌, refl, sym, ap, ◌∙◌}
use mathlib.Core.Bool.{Bool, true, false, cond, ◌&&◌, true≢false}
use mathlib.Core.List.{List, [], ◌∷◌}
use Prim.Native.Nat.{ℕ, zero, suc, ◌+◌, ◌-◌, ◌≤◌, ◌<◌}
use native.Mathlib.Numerals.{add-one}
use native.Mathlib.Omega.{arith}
use lib.Dec.{ltb}
use lib.IntN.{ℤ, pos, negsuc}
use lib.ListN.{length, get_or, drop, drop_of_length-le}
use borrow.Author.Tests.{lt-ltb, le-ltb}
use Rattle.listing.specs.Count.{count}
use Rattle.listing.proofs.Numbers.{either, below?}
use Rattle.promise.specs.Plan.{Leg, leg_at}
use Rattle.promise.proofs.Tests.{Tells, tells-and, tells-eqb, tells-leb, tells-ltb}
use Rattle.plan_rules.specs.Planned.{Limits, EachFits}
use Rattle.plan_rules.specs.Places.{leg_held, legs_held}
use Rattle.plan_rules.specs.declared.Plan.{Plan}
use Rattle.plan_rules.specs.Rules.{legs_of, places, Beyond, Ruled, leg_ruled, unused, places_ruled, plan_ruled}
use Rattle.plan_rules.proofs.Held.{length-held, held_at, legs-from}

-- ---- place by place: those before `at` are right, so those from there on decide

-- what is asked of place `at`
abbrev pub place_ruled : ℕ → ℕ → ℕ → Leg → Bool
place_ruled size legs at l = cond (ltb at legs) (leg_ruled size l) (unused l)

-- the first of some places and those after it
ruled_step : (size legs at : ℕ) (l : Leg) (ls : List Leg)
    → places_ruled size (legs - at) (l ∷ ls) ≡ (place_ruled size legs at l && places_ruled size (legs - (at + 1)) ls)
unfolding places_ruled
ruled_step size legs at l ls =
    either (below? at legs)
    (λ h. let e : legs - at ≡ suc (legs - (at + 1)) = omega arith in rw (e, lt-ltb at legs h) refl)
    (λ h.
    let e : legs - at ≡ 0 = omega arith in
    let f : legs - (at + 1) ≡ 0 = omega arith in
    rw (e, f, le-ltb at legs h) refl)

no-places : (size k : ℕ) → places_ruled size k [] ≡ true
unfolding places_ruled
no-places size zero = refl
no-places size (suc k) = refl

module _ (size legs n : ℕ) (s : List ℕ) (r : List ℤ) (ls : length s ≡ n) (lr : length r ≡ n) (at : ℕ) where
  -- all places
  abbrev all : List Leg
  all = legs_held (length s) s r

  -- from `at` on
  module _ (h : at < n) where
    here : drop at all ≡ leg_held (get_or s at 0) (get_or r at (pos 0)) ∷ drop (at + 1) all
    here =
        legs-from all at (omega (arith, length-held (length s) s r (omega arith) (omega arith)))
        ∙ ap (λ l. l ∷ drop (suc at) all) (held_at (length s) s r at (omega arith) (omega arith) (omega arith))
        ∙ ap (λ k. leg_held (get_or s at 0) (get_or r at (pos 0)) ∷ drop k all) (sym (add-one at))

    next : places_ruled size (legs - at) (drop at all)
        ≡ (place_ruled size legs at (leg_held (get_or s at 0) (get_or r at (pos 0))) && places_ruled size (legs - (at + 1)) (drop (at + 1) all))
    next = ap (places_ruled size (legs - at)) here ∙ ruled_step size legs at (leg_held (get_or s at 0) (get_or r at (pos 0))) (drop (at + 1) all)

    pub place-right : place_ruled size legs at (leg_held (get_or s at 0) (get_or r at (pos 0))) ≡ true
        → places_ruled size (legs - at) (drop at all) ≡ places_ruled size (legs - (at + 1)) (drop (at + 1) all)
    place-right e = next ∙ ap (λ b. b && places_ruled size (legs - (at + 1)) (drop (at + 1) all)) e

    pub place-wrong : place_ruled size legs at (leg_held (get_or s at 0) (get_or r at (pos 0))) ≡ false → places_ruled size (legs - at) (drop at all) ≡ false
    place-wrong e = next ∙ ap (λ b. b && places_ruled size (legs - (at + 1)) (drop (at + 1) all)) e

  -- no place is left
  pub places-done : n ≤ at → places_ruled size (legs - at) (drop at all) ≡ true
  places-done h =
      let few : length all ≤ at = omega (arith, length-held (length s) s r (omega arith) (omega arith)) in
      ap (places_ruled size (legs - at)) (drop_of_length-le all few) ∙ no-places size (legs - at)

-- ---- what the test tells

-- places from the first on: k legs that fit, and then unused ones
AsRuled : ℕ → ℕ → List Leg → Type 0
AsRuled size k [] = Unit {0}
AsRuled size zero (l ∷ ls) = ((l.start ≡ 0) × (l.run ≡ 0)) × AsRuled size zero ls
AsRuled size (suc k) (l ∷ ls) = ((l.start < size) × (l.run < size)) × AsRuled size k ls

tells-places : (size k : ℕ) (ls : List Leg) → Tells (places_ruled size k ls) (AsRuled size k ls)
unfolding places_ruled AsRuled
tells-places size zero [] = (λ e. tt, λ h. refl)
tells-places size (suc k) [] = (λ e. tt, λ h. refl)
tells-places size zero (l ∷ ls) = tells-and _ _ (tells-and _ _ (tells-eqb l.start 0) (tells-eqb l.run 0)) (tells-places size zero ls)
tells-places size (suc k) (l ∷ ls) = tells-and _ _ (tells-and _ _ (tells-ltb l.start size) (tells-ltb l.run size)) (tells-places size k ls)

-- a leg that runs backward has a run that is not 0
behind-some : (s : ℕ) (r : ℤ) → (leg_held s r).back ≡ true → 1 ≤ (leg_held s r).run
behind-some s (pos n) e = absurd (true≢false (sym e))
behind-some s (negsuc n) e = omega arith

-- a leg starts where its place says
held_start : (s : ℕ) (r : ℤ) → (leg_held s r).start ≡ s
held_start s (pos n) = refl
held_start s (negsuc n) = refl

-- a place whose run is 0 holds 0
run-zero : (s : ℕ) (r : ℤ) → (leg_held s r).run ≡ 0 → r ≡ pos 0
run-zero s (pos n) e = ap pos e
run-zero s (negsuc n) e = absurd (omega arith)

-- ---- places beyond

pub beyond-here : {A : Type 0} (z x : A) (l : List A) → x ≡ z → Beyond 0 z l → Beyond 0 z (x ∷ l)
beyond-here z x l e h zero a b = e
beyond-here z x l e h (suc i) a b = h i (omega arith) (omega arith)

pub beyond-later : {A : Type 0} (k : ℕ) (z x : A) (l : List A) → Beyond k z l → Beyond (suc k) z (x ∷ l)
beyond-later k z x l h zero a b = absurd (omega arith)
beyond-later k z x l h (suc i) a b = h i (omega arith) (omega arith)

pub beyond-rest : {A : Type 0} (k : ℕ) (z x : A) (l : List A) → Beyond (suc k) z (x ∷ l) → Beyond k z l
beyond-rest k z x l h i a b = h (suc i) (omega arith) (omega arith)

pub beyond-all : {A : Type 0} (z x : A) (l : List A) → Beyond 0 z (x ∷ l) → (x ≡ z) × Beyond 0 z l
beyond-all z x l h = (h 0 (omega arith) (omega arith), λ i a b. h (suc i) (omega arith) (omega arith))

-- ---- the sentence, of k legs in the places s and r

record Ruling (size k : ℕ) (s : List ℕ) (r : List ℤ) : Type 0 where
  each : EachFits size (legs_held k s r)
  starts : Beyond k 0 s
  runs : Beyond k (pos 0) r

asked-ruling : (size k : ℕ) (s : List ℕ) (r : List ℤ) → length s ≡ length r → AsRuled size k (legs_held (length s) s r) → Ruling size k s r
unfolding AsRuled legs_held
asked-ruling size zero [] [] l h = record { each = tt; starts = λ i a b. absurd (omega arith); runs = λ i a b. absurd (omega arith) }
asked-ruling size (suc k) [] [] l h = record { each = tt; starts = λ i a b. absurd (omega arith); runs = λ i a b. absurd (omega arith) }
asked-ruling size k [] (y ∷ r) l h = absurd (omega arith)
asked-ruling size k (x ∷ s) [] l h = absurd (omega arith)
asked-ruling size zero (x ∷ s) (y ∷ r) l h =
    let later : Ruling size zero s r = asked-ruling size zero s r (omega arith) h.1 in
    record {
      each = tt;
      starts = beyond-here 0 x s (sym (held_start x y) ∙ h.0.0) later.starts;
      runs = beyond-here (pos 0) y r (run-zero x y h.0.1) later.runs;
    }
asked-ruling size (suc k) (x ∷ s) (y ∷ r) l h =
    let later : Ruling size k s r = asked-ruling size k s r (omega arith) h.1 in
    record {
      each = (record { start = h.0.0; run = h.0.1; behind = behind-some x y }, later.each);
      starts = beyond-later k 0 x s later.starts;
      runs = beyond-later k (pos 0) y r later.runs;
    }

ruling-asked : (size k : ℕ) (s : List ℕ) (r : List ℤ) → length s ≡ length r → Ruling size k s r → AsRuled size k (legs_held (length s) s r)
unfolding AsRuled legs_held
ruling-asked size zero [] [] l h = tt
ruling-asked size (suc k) [] [] l h = tt
ruling-asked size k [] (y ∷ r) l h = absurd (omega arith)
ruling-asked size k (x ∷ s) [] l h = absurd (omega arith)
ruling-asked size zero (x ∷ s) (y ∷ r) l h =
    let a = beyond-all 0 x s h.starts in
    let b = beyond-all (pos 0) y r h.runs in
    ((held_start x y ∙ a.0, ap (λ z. (leg_held x z).run) b.0), ruling-asked size zero s r (omega arith) (record { each = tt; starts = a.1; runs = b.1 }))
ruling-asked size (suc k) (x ∷ s) (y ∷ r) l h = (
  (h.each.0.start, h.each.0.run),
  ruling-asked size k s r (omega arith)
      (record { each = h.each.1; starts = beyond-rest k 0 x s h.starts; runs = beyond-rest k (pos 0) y r h.runs }),
)

-- ---- the plan

-- the test tells the sentence, of a plan with places for the most legs
pub tells-ruled : (most : Limits) (p : Plan) → length p.starts ≡ most.legs → length p.runs ≡ most.legs → Tells (plan_ruled most p) (Ruled most p)
unfolding plan_ruled
tells-ruled most p ls lr =
    let size : ℕ = count p.ports in
    let ports = tells-and _ _ (tells-leb 2 p.ports) (tells-leb p.ports most.ports) in
    let legs = tells-and _ _ (tells-and _ _ ports (tells-leb 1 p.legs)) (tells-leb p.legs most.legs) in
    let whole = tells-and _ _ legs (tells-places size p.legs (places p)) in (
      λ e.
          let t = whole.0 e in
          let many : length (legs_of p) ≡ p.legs = length-held p.legs p.starts p.runs (omega (arith, t.0.1)) (omega (arith, t.0.1)) in
          let w : Ruling size p.legs p.starts p.runs = asked-ruling size p.legs p.starts p.runs (ls ∙ sym lr) t.1 in
          record {
            fits = record {
              few_ports = t.0.0.0.0;
              many_ports = t.0.0.0.1;
              few_legs = omega (arith, t.0.0.1);
              many_legs = omega (arith, t.0.1);
              each = w.each;
            };
            legs = t.0.1;
            starts = w.starts;
            runs = w.runs;
          },
      λ R.
          let f = R.fits in
          let many : length (legs_of p) ≡ p.legs = length-held p.legs p.starts p.runs (omega (arith, R.legs)) (omega (arith, R.legs)) in
          whole.1 (
            (((f.few_ports, f.many_ports), omega (arith, f.few_legs)), R.legs),
            ruling-asked size p.legs p.starts p.runs (ls ∙ sym lr) (record { each = f.each; starts = R.starts; runs = R.runs }),
          ),
    )

-- of a plan within the rules, with places for the most legs: what the sentence says
module _ (most : Limits) (p : Plan) (ls : length p.starts ≡ most.legs) (lr : length p.runs ≡ most.legs) (e : plan_ruled most p ≡ true) where
  pub few-legs : p.legs ≤ most.legs
  unfolding plan_ruled
  few-legs =
      let ports = tells-and _ _ (tells-leb 2 p.ports) (tells-leb p.ports most.ports) in
      let legs = tells-and _ _ (tells-and _ _ ports (tells-leb 1 p.legs)) (tells-leb p.legs most.legs) in
      ((tells-and _ _ legs (tells-places (count p.ports) p.legs (places p))).0 e).0.1

  pub ruled : Ruled most p
  ruled = (tells-ruled most p ls lr).0 e

  pub legs-many : length (legs_of p) ≡ p.legs
  legs-many = length-held p.legs p.starts p.runs (omega (arith, few-legs)) (omega (arith, few-legs))

  pub leg-in-place : (i : ℕ) → i < p.legs → leg_at (legs_of p) i ≡ leg_held (get_or p.starts i 0) (get_or p.runs i (pos 0))
  leg-in-place i h = held_at p.legs p.starts p.runs i (omega (arith, few-legs)) (omega (arith, few-legs)) h
