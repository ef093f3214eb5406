-- The rehearsal at a mark, from its place: what is asked of the rank and of the pattern, and that the rehearsal put together is the one that is defined.
-- Assumes nothing.
use mathlib.Core.Path.{◌≡◌, sym, ap, subst, ◌∙◌}
use mathlib.Core.Bool.{true, false}
use mathlib.Core.List.{List}
use Prim.Native.Nat.{ℕ, ◌≤◌, ◌<◌}
use native.Mathlib.Omega.{arith}
use lib.ListN.{length}
use Rattle.listing.specs.Count.{count}
use Rattle.listing.specs.Listing.{at}
use Rattle.listing.specs.Limits.{most_ports, most_legs}
use Rattle.words.specs.Padded.{padded}
use Rattle.words.specs.declared.Leg as words
use Rattle.promise.specs.Plan.{Leg, leg_at, stepped, rank_at}
use Rattle.promise.specs.Derangements.{derangements}
use Rattle.plan_rules.specs.Planned.{LegFits, device}
use Rattle.plan_rules.specs.Rules.{leg_is, legs_of, Ruled, plan_ruled}
use Rattle.plan_rules.specs.declared.Plan.{Plan}
use Rattle.plan_rules.proofs.Rules.{ruled}
use Rattle.campaign_way.proofs.Walks.{walk-listed}
use Rattle.printing.specs.declared.Rehearsal.{Rehearsal}
use Rattle.showing.specs.Places.{mark_rank, rehearsal_at, PlaceIs}
use Rattle.showing.specs.declared.marks.MarkPlace.{MarkPlace}
use Rattle.showing.proofs.Ruled.{leg-fits}
use Rattle.showing.proofs.Places.{leg-of, leg-found, step-of}

-- the plan of a mark with its places, the mark's place, and its leg
pub record Found (p : Plan) (k : ℕ) (r : MarkPlace) (l : words.Leg) : Type 0 where
  pub starts : length p.starts ≡ most_legs
  pub runs : length p.runs ≡ most_legs
  pub plan : plan_ruled device p ≡ true
  pub place : PlaceIs (legs_of p) k r
  pub leg : leg_is l ≡ leg_at (legs_of p) r.leg

module _ (p : Plan) (k : ℕ) (r : MarkPlace) (l : words.Leg) (F : Found p k r l) where
  rules : Ruled device p
  rules = ruled device p F.starts F.runs F.plan

  fits : LegFits (count p.ports) (leg_is l)
  fits = leg-fits p F.starts F.runs F.plan r.leg l F.place.leg F.leg

  -- what is asked of its rank
  pub rank-asked : (2 ≤ p.ports) × (p.ports ≤ most_ports) × (l.start < count p.ports) × (r.step < count p.ports)
  rank-asked =
      let step : r.step ≤ l.run = subst (λ (x : Leg). r.step ≤ x.run) (sym F.leg) F.place.step in
      (rules.fits.few_ports, rules.fits.many_ports, fits.start, omega (arith, fits.run))

  -- the rank that was found
  module _ (x : ℕ) (e : x ≡ stepped (derangements p.ports) l.back l.start r.step) where
    -- has a pattern
    pub rank-listed : (p.ports ≤ most_ports) × (x < count p.ports)
    rank-listed = (
      rules.fits.many_ports,
      subst (λ y. y < count p.ports) (sym e) (walk-listed p.ports rules.fits.few_ports l.start l.back r.step fits.start),
    )

    -- is the mark's
    pub rank-of-mark : x ≡ mark_rank p k
    rank-of-mark =
        e ∙ (λ i. rank_at (derangements p.ports) ((F.leg ∙ leg-found (legs_of p) k r F.place) i) (step-of (legs_of p) k r F.place i))

    -- so the rehearsal with its pattern is the one at the mark
    pub rehearsal-is : (panel : List ℕ) → panel ≡ padded most_ports 0 (at p.ports x)
        → ◌≡◌ {A = Rehearsal} (record { plan = p; panel = panel; leg = r.leg; step = r.step; ended = false }) (rehearsal_at p k)
    unfolding rehearsal_at
    rehearsal-is panel f =
        let full : panel ≡ padded most_ports 0 (at p.ports (mark_rank p k)) = f ∙ ap (λ y. padded most_ports 0 (at p.ports y)) rank-of-mark in
        λ i. record { plan = p; panel = full i; leg = leg-of (legs_of p) k r F.place i; step = step-of (legs_of p) k r F.place i; ended = false }
