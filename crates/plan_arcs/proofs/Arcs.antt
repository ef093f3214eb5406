-- The arc of a leg, put together from its parts; that a leg of a plan within the rules is below the count; where gaps begin, leg by leg.
-- Assumes nothing.
use mathlib.Core.Path.{◌≡◌, refl, sym, ap, ap₂, ◌∙◌}
use mathlib.Core.Bool.{Bool, true, false}
use mathlib.Core.List.{List, [], ◌∷◌, ◌++◌, map}
use Prim.Native.Nat.{ℕ, zero, suc, ◌+◌, ◌≤◌, ◌<◌}
use native.Mathlib.Numerals.{add-one}
use native.Mathlib.Omega.{arith}
use lib.ListN.{length, take, set, length-map}
use lib.Seq.{length-take-le}
use Rattle.words.specs.Padded.{padded}
use Rattle.words.proofs.Padded.{padded-set}
use Rattle.promise.specs.Plan.{Leg, leg_at}
use Rattle.promise_arcs.specs.Circle.{backward}
use Rattle.promise_arcs.specs.Gaps.{Arc}
use Rattle.promise_arcs.specs.Finding.{first_of, arc_of, on_some, past, opening}
use Rattle.promise_arcs.proofs.Legs.{Ruled, first-listed}
use Rattle.plan_rules.specs.Planned.{EachFits}
use Rattle.plan_rules.proofs.Held.{each_fits}

module _ (c s k : ℕ) (back : Bool) (hs : s < c) (hk : k < c) where
  -- an arc with the leg's first rank and one rank more than its steps is the leg's
  is-arc : (f : ℕ) → f ≡ first_of c back s k
      → (record { first = f; many = k + 1 } ≡ arc_of c (record { start = s; back = back; run = k })) × ((f < c) × (k + 1 ≤ c))
  is-arc f e =
      (ap₂ {C = Arc} (λ x y. record { first = x; many = y }) e (add-one k), (omega (arith, first-listed c back s k hs hk), omega arith))

  -- of a leg that runs backward
  pub arc-back : back ≡ true → (f : ℕ) → f ≡ backward c s k
      → (record { first = f; many = k + 1 } ≡ arc_of c (record { start = s; back = back; run = k })) × ((f < c) × (k + 1 ≤ c))
  arc-back e f q = is-arc f (q ∙ ap (λ b. first_of c b s k) (sym e))

-- a leg of legs that fit starts and runs below the size
pub leg-below : (size : ℕ) (ls : List Leg) → EachFits size ls → (i : ℕ) → i < length ls → (l : Leg) → l ≡ leg_at ls i → (l.start < size) × (l.run < size)
leg-below size ls fits i h l e =
    let F = each_fits size ls fits i h in (omega (arith, F.start, ap (λ (x : Leg). x.start) e), omega (arith, F.run, ap (λ (x : Leg). x.run) e))

-- legs that fit are within the rules
pub fits-ruled : (size : ℕ) (ls : List Leg) → EachFits size ls → Ruled size ls
fits-ruled size [] h = tt
fits-ruled size (l ∷ ls) h = (h.0.start, h.0.run, fits-ruled size ls h.1)

-- ---- where gaps begin

-- nowhere after an arc past which an arc lies
pub opening-none : (c : ℕ) (Bs : List Arc) (A B : Arc) (q : ℕ) → A ≡ B → q ≡ past c A → on_some c Bs q ≡ true → c ≡ opening c Bs B
unfolding opening
opening-none c Bs A B q e at on = rw (sym e, sym at, on)

-- else past it
pub opening_past : (c : ℕ) (Bs : List Arc) (A B : Arc) (q : ℕ) → A ≡ B → q ≡ past c A → on_some c Bs q ≡ false → q ≡ opening c Bs B
unfolding opening
opening_past c Bs A B q e at off = rw (sym e, sym at, off)

module _ (c : ℕ) (Bs : List Arc) (most : ℕ) where
  -- one leg more
  opened-next : (ls : List Leg) (i : ℕ) → i < length ls
      → take (suc i) (map (opening c Bs) (map (arc_of c) ls)) ≡ take i (map (opening c Bs) (map (arc_of c) ls)) ++ (opening c Bs (arc_of c (leg_at ls i)) ∷ [])
  opened-next [] i h = absurd (omega arith)
  opened-next (l ∷ ls) zero h = refl
  opened-next (l ∷ ls) (suc i) h = ap (λ es. opening c Bs (arc_of c l) ∷ es) (opened-next ls i (omega arith))

  module _ (ls : List Leg) where
    abbrev opened : List ℕ
    opened = map (opening c Bs) (map (arc_of c) ls)

    opened-long : length opened ≡ length ls
    opened-long = length-map (map (arc_of c) ls) (opening c Bs) ∙ length-map ls (arc_of c)

    -- in the place of leg i
    pub opened-more : (u : List ℕ) (i v : ℕ) → i < length ls → length ls ≤ most → u ≡ padded most c (take i opened) → v ≡ opening c Bs (arc_of c (leg_at ls i))
        → set u i v ≡ padded most c (take (i + 1) opened)
    opened-more u i v h m e q =
        let long : length (take i opened) ≡ i = length-take-le i opened (omega (arith, opened-long)) in
        ap₂ (λ l x. set l i x) e q
        ∙ ap (λ j. set (padded most c (take i opened)) j (opening c Bs (arc_of c (leg_at ls i)))) (sym long)
        ∙ padded-set most c (opening c Bs (arc_of c (leg_at ls i))) (take i opened) (omega arith)
        ∙ ap (padded most c) (sym (opened-next ls i h) ∙ ap (λ k. take k opened) (sym (add-one i)))
