-- The rehearsal at a mark hands out that very mark: the state that it stands for is fit (`stands-fit`), nothing is to come before the mark, and a request is
-- answered by it (`first-answer`).
-- Assumes nothing.
use mathlib.Core.Path.{◌≡◌, refl, sym, ap, subst, ◌∙◌}
use mathlib.Core.Bool.{true, cond, true≢false}
use mathlib.Core.List.{[]}
use mathlib.Core.Option.{some}
use Prim.Native.Nat.{ℕ, ◌≤◌, ◌<◌}
use native.Mathlib.Omega.{arith}
use native.Mathlib.Nat.{le_trans}
use lib.ListN.{length, take}
use borrow.Author.Tests.{le-ltb}
use Rattle.listing.specs.Count.{count}
use Rattle.listing.specs.Listing.{at}
use Rattle.listing.specs.Limits.{most_ports, most_legs}
use Rattle.listing.proofs.Ranks.{at-derangement}
use Rattle.words.specs.declared.Line.TheVariants.{Mark}
use Rattle.words.proofs.Padded.{padded-length, padded-front, padded-beyond}
use Rattle.promise.specs.Plan.{Leg, leg_at, rank_at, marks, leg_of, step_of}
use Rattle.promise.specs.Campaign as model
use Rattle.promise.specs.Campaign.{request, mark, todo}
use Rattle.promise.specs.Fitness as promise
use Rattle.promise.specs.Derangements.{derangements}
use Rattle.promise.proofs.Ways.{way-over, found-way}
use Rattle.promise.proofs.Derangements.{lawful-on}
use Rattle.line_format.specs.Format.{line_text}
use Rattle.line_format.proofs.Longest.{at-most-45}
use Rattle.plan_rules.specs.Planned.{LegFits, device}
use Rattle.plan_rules.specs.Rules.{legs_of, Ruled, plan_ruled}
use Rattle.plan_rules.specs.declared.Plan.{Plan}
use Rattle.plan_rules.proofs.Held.{each_fits}
use Rattle.plan_rules.proofs.Rules.{ruled, few-legs, legs-many}
use Rattle.plan_rules.proofs.Marks.{marks-all, marks-fit, count-within}
use Rattle.campaign_way.proofs.Walks.{walk-listed}
use Rattle.campaign_state.specs.State.{setting_of, moment_of}
use Rattle.campaign_state.specs.Fitness.{fit}
use Rattle.campaign_state.specs.declared.State.{State}
use Rattle.campaign_state.proofs.Fit.{tells-fit}
use Rattle.campaign.specs.Calls.{answer_of, roomed}
use Rattle.campaign.proofs.Asked.{mark-answer}
use Rattle.printing.specs.Rehearsals.{state_of}
use Rattle.printing.proofs.Ran.{closed-ran}
use Rattle.showing.specs.Places.{leg_number, mark_rank, rehearsal_at, PlaceIs}
use Rattle.showing.proofs.Places.{leg-found, mark-placed}

module _ (p : Plan) (ls : length p.starts ≡ most_legs) (lr : length p.runs ≡ most_legs) (e : plan_ruled device p ≡ true) (k : ℕ)
    (h : k < marks (legs_of p)) where
  rules : Ruled device p
  rules = ruled device p ls lr e

  many : length (legs_of p) ≡ p.legs
  many = legs-many device p ls lr e

  -- its place, and its leg
  place : PlaceIs (legs_of p) k (record { leg = leg_number (legs_of p) k; step = step_of (legs_of p) k })
  place = mark-placed (legs_of p) k h

  leg : Leg
  leg = leg_at (legs_of p) (leg_number (legs_of p) k)

  is-leg : leg ≡ leg_of (legs_of p) k
  unfolding leg
  is-leg = leg-found (legs_of p) k _ place

  fits : LegFits (count p.ports) leg
  unfolding leg
  fits = each_fits (count p.ports) (legs_of p) rules.fits.each (leg_number (legs_of p) k) place.leg

  -- every rank of the leg is listed, and so is the mark's
  listed : (i : ℕ) → rank_at (derangements p.ports) leg i < count p.ports
  listed i = walk-listed p.ports rules.fits.few_ports leg.start leg.back i fits.start

  rank_is : rank_at (derangements p.ports) leg (step_of (legs_of p) k) ≡ mark_rank p k
  rank_is = ap (λ l. rank_at (derangements p.ports) l (step_of (legs_of p) k)) is-leg

  below : mark_rank p k < count p.ports
  below = subst (λ x. x < count p.ports) rank_is (listed (step_of (legs_of p) k))

  long : length (at p.ports (mark_rank p k)) ≡ p.ports
  long = (at-derangement p.ports (mark_rank p k) below).permutation.long

  -- the state that the rehearsal stands for
  abbrev state : State
  state = state_of (rehearsal_at p k)

  -- the mark's pattern stands
  stands : take p.ports (rehearsal_at p k).panel ≡ (derangements p.ports).pattern (rank_at (derangements p.ports) leg (step_of (legs_of p) k))
  unfolding rehearsal_at derangements
  stands = padded-front most_ports p.ports 0 (at p.ports (mark_rank p k)) long ∙ ap (at p.ports) (sym rank_is)

  -- so nothing is to come
  clear : todo (setting_of state) (moment_of state) ≡ some []
  unfolding rehearsal_at leg derangements
  clear =
      ap (model.to_come (derangements p.ports) leg (step_of (legs_of p) k)) stands
      ∙ way-over (derangements p.ports) (lawful-on p.ports rules.fits.few_ports) leg (step_of (legs_of p) k) (λ i g. listed i)

  -- it is fit
  moment-fits : promise.Fit (setting_of state) (moment_of state)
  unfolding rehearsal_at
  moment-fits = record {
    leg = place.leg;
    step = place.step;
    errors = omega arith;
    counts = omega (arith, closed-ran (rehearsal_at p k) e (omega (arith, place.leg, many)) place.step);
    end = λ q. absurd (true≢false (sym q));
    at_mark = λ q. absurd (true≢false (sym q));
    at_end = λ q. absurd (true≢false (sym q));
    between = λ st en. found-way _ _ _ _ [] clear;
    seat = omega arith;
    seated = λ h. absurd (omega arith);
  }

  pub stands-fit : fit state ≡ true
  unfolding rehearsal_at
  stands-fit =
      let few : length (at p.ports (mark_rank p k)) ≤ most_ports = omega (arith, long, rules.fits.many_ports) in
      (tells-fit state (record { starts = ls; runs = lr; panel = padded-length most_ports 0 (at p.ports (mark_rank p k)) few })).1
      (record {
        plan = rules;
        unused = λ i g l. padded-beyond most_ports 0 (at p.ports (mark_rank p k)) i (omega (arith, long));
        moment = moment-fits;
      })

  -- the mark's line has room in 45 bytes
  short : length (line_text (Mark k (mark_rank p k))) ≤ 45
  short =
      let all = marks-all (legs_of p) p.legs (sym many) in
      let few = marks-fit p rules p.legs (few-legs device p ls lr e) in
      let most = count-within p.ports most_ports (omega (arith, rules.fits.few_ports)) rules.fits.many_ports in
      at-most-45 (Mark k (mark_rank p k)) (omega (arith, all, few), le_trans below most)

  -- the first request is answered by that very mark
  pub first-answer : (room : ℕ) → 45 ≤ room → answer_of (request room) state ≡ mark k (mark_rank p k)
  unfolding rehearsal_at leg roomed
  first-answer room g =
      mark-answer state stands-fit room refl refl refl clear
      ∙ ap (roomed room) (λ i. mark (place.number i) (rank_is i))
      ∙ ap (λ b. cond b (model.refusal 2) (mark k (mark_rank p k))) (le-ltb room (length (line_text (Mark k (mark_rank p k)))) (omega (arith, short)))
