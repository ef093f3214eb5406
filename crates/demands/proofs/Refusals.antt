-- Refusals that calls on an accepted plan never meet: 15 on no state that they leave (`never-unfit`), 2 with no buffer of 45 bytes or more (`room-45`). And the
-- state of a refused plan is all zeros (`refused-zeros`) and refused with 15 by every call (`refused-unfit`).
-- Assumes nothing.
use mathlib.Core.Path.{◌≡◌, sym, ap, ◌∙◌}
use mathlib.Core.Logic.{◌≢◌}
use mathlib.Core.Bool.{false, true≢false}
use mathlib.Core.List.{List}
use Prim.Native.Nat.{ℕ, ◌≤◌}
use native.Mathlib.Omega.{arith}
use lib.IntN.{pos}
use lib.ListN.{replicate}
use Rattle.listing.specs.Pattern.{tabulate}
use Rattle.listing.specs.Ends.{home}
use Rattle.listing.specs.Limits.{most_ports, most_legs}
use Rattle.words.specs.Told.{Spot, refused}
use Rattle.promise.specs.Campaign.{Setting, Call, request, Answer, refusal}
use Rattle.promise.specs.Campaign as model
use Rattle.promise.specs.Fitness.{Fit, Why, no_room}
use Rattle.promise.proofs.Steps.{Does, moves-on, seats-on, hands_out, ends, closes, errs, refuses}
use Rattle.promise.proofs.Refusals.{tells-refusal}
use Rattle.plan_rules.specs.Places.{placed, held_of}
use Rattle.plans.specs.Calls.{read_plan_of}
use Rattle.plan_rules.specs.Rules.{plan_ruled}
use Rattle.campaign_state.specs.State.{moment_of}
use Rattle.campaign_state.specs.Fitness.{places_fit}
use Rattle.campaign.specs.Calls.{answer_of, begun_of, first_state}
use Rattle.campaign_reached.specs.Turns.{AcceptedPlan, campaign_of, begun, Called, left_after}
use Rattle.campaign_reached.proofs.Kept.{answer-on}
use Rattle.campaign_reached.proofs.Reached.{does-there, reached-after}
use Rattle.campaign_reached.proofs.Room.{offer-45}

-- ---- 15

-- what a call does to a fit state is not to refuse it with 15
not-fifteen : {C : Setting} {m m' : model.State} {c : Call} {a : Answer} → Does C m c a m' → a ≢ refusal 15
not-fifteen (moves-on o os st en ns w) e = true≢false (cc)
not-fifteen (seats-on sn) e = true≢false (cc)
not-fifteen (hands_out st en ns w) e = true≢false (cc)
not-fifteen (ends en) e = true≢false (cc)
not-fifteen (closes st cl x) e = true≢false (cc)
not-fifteen (errs st lt) e = true≢false (cc)
not-fifteen (refuses k n) e = n (cc)

-- ---- 2

module _ (P : AcceptedPlan) where
  abbrev C : Setting
  C = campaign_of P

  -- why a request is refused with 2
  no-room : (m : model.State) (room : ℕ) → Fit C m → 45 ≤ room → Why C m (request room) 2 → ⊥
  no-room m room f h (no_room g st less) = omega (arith, offer-45 P m f st)

  module _ (cs : List Called) where
    -- 'No state that calls on an accepted plan leave is refused with 15'
    pub never-unfit : (c : Call) → answer_of c (left_after cs (begun P)) ≢ refusal 15
    never-unfit c = not-fifteen (does-there P (left_after cs (begun P)) (reached-after P cs) c)

    -- a buffer of 45 bytes has room for every line
    pub room-45 : (room : ℕ) → 45 ≤ room → answer_of (request room) (left_after cs (begun P)) ≢ refusal 2
    room-45 room h x =
        let s = left_after cs (begun P) in
        let R = reached-after P cs in
        no-room (moment_of s) room R.fit h
        ((tells-refusal C (moment_of s) (request room) 2).0 (sym (answer-on C s R.kept R.setting (request room)) ∙ x))

-- ---- a refused plan

module _ (t : List ℕ) (k : ℕ) (at : Spot) (e : read_plan_of t ≡ refused k at) where
  -- 'A refused one comes with a state all zeros'
  pub refused-zeros : begun_of t ≡ record {
    plan = record { ports = 0; legs = 0; starts = replicate most_legs 0; runs = replicate most_legs (pos 0) };
    panel = replicate most_ports 0;
    leg = 0;
    step = 0;
    covered = 0;
    opened = 0;
    errors = 0;
    standing = false;
    ended = false;
    seat = 0;
  }
  unfolding placed home tabulate
  refused-zeros = ap (λ r. first_state (held_of most_legs r)) e

  -- which every call refuses with 15
  pub refused-unfit : (c : Call) → answer_of c (begun_of t) ≡ refusal 15
  unfolding answer_of places_fit plan_ruled
  refused-unfit c = ap (answer_of c) refused-zeros
