-- What a call on a fit state shows: the line of its answer is one that a campaign writes, it fits the panel, a mark meets its pattern, and the panel after the
-- line is that of the state left (`shows`).
-- Assumes nothing.
use mathlib.Core.Path.{◌≡◌, refl, sym, ap, subst}
use mathlib.Core.List.{List, ◌∷◌}
use mathlib.Core.Option.{some}
use Prim.Native.Nat.{ℕ, ◌≤◌, ◌<◌}
use native.Mathlib.Omega.{arith}
use Rattle.listing.specs.Numbers.{Among}
use Rattle.listing.specs.Count.{count}
use Rattle.listing.specs.Pattern.{Permutation}
use Rattle.listing.specs.Orders as list
use Rattle.listing.specs.Orders.{carry, InShape}
use Rattle.listing.specs.Limits.{most_ports, largest64}
use Rattle.listing.proofs.Limits.{count-20, count_most}
use Rattle.listing.proofs.Sources.{carry-permutation}
use Rattle.words.specs.Meaning.{order_of, order_from}
use Rattle.words.proofs.Once.{order-there}
use Rattle.words.proofs.Shape.{among_one, shape-shaped, shape-more}
use Rattle.promise.specs.Plan.{marks}
use Rattle.promise.specs.Campaign.{State, Setting, Call, Answer, movement, here, number_of, rank_of, todo}
use Rattle.promise.specs.Fitness.{Fit}
use Rattle.promise.specs.Derangements.{derangements}
use Rattle.promise.proofs.Legs.{number-below}
use Rattle.promise.proofs.Ways.{way-done}
use Rattle.promise.proofs.Marks.{closed-so}
use Rattle.promise.proofs.Steps.{Does, moves-on, seats-on, hands_out, ends, closes, errs, refuses, listed_here, coming-here}
use Rattle.plans.proofs.Longest.{marks-most}
use Rattle.campaign_state.specs.State.{answer_line}
use Rattle.campaign_reached.specs.Turns.{AcceptedPlan, campaign_of}
use Rattle.campaign_reached.specs.Shown.{Shown}
use Rattle.campaign_reached.proofs.Begun.{plan-fits, lawful, accepts}

module _ (P : AcceptedPlan) where
  abbrev C : Setting
  C = campaign_of P

  -- the plan's marks fit 64 bits, and its ranks are below the count for 20 ports
  few-marks : marks P.plan.legs ≤ largest64
  few-marks = omega (arith, marks-most P.text P.plan P.accepts)

  few-ranks : count P.plan.ports ≤ count most_ports
  few-ranks = omega (arith, count_most P.plan.ports (plan-fits P).many_ports, count-20)

  -- the first order still to come is in shape
  shape-so : (m : State) → Fit C m → (o : list.Order) (os : List list.Order) → todo C m ≡ some (o ∷ os) → InShape P.plan.ports o
  unfolding derangements
  shape-so m f o os w = (coming-here C (lawful P) (accepts P) m f (o ∷ os) w).shaped.0

  -- an order in shape
  order-shown : (o : list.Order) (q : List ℕ) → InShape P.plan.ports o → Shown P.plan.ports (answer_line (movement o)) q (carry o q)
  order-shown o q s =
      let back : InShape P.plan.ports (order_of (order_from o)) = subst (InShape P.plan.ports) (sym (order-there o)) s in
      record {
        ours = shape-more P.plan.ports most_ports (order_of (order_from o)) (plan-fits P).many_ports back;
        fits = shape-shaped P.plan.ports (order_of (order_from o)) back;
        meets = tt;
        leads = ap (λ x. carry x q) (order-there o);
      }

  -- whatever a call does to a fit state, it shows a line of the campaign, or none
  pub shows : {m m' : State} {c : Call} {a : Answer} → Fit C m → Does C m c a m' → Shown P.plan.ports (answer_line a) m.panel m'.panel
  unfolding derangements
  shows {m} f (moves-on o os st en ns w) = order-shown o m.panel (shape-so m f o os w)
  shows {m} f (seats-on sn) =
      let n : ℕ = P.plan.ports in
      let is : Among n m.to_seat = (sn, f.seat) in
      record {
        ours = (sn, omega (arith, f.seat, (plan-fits P).many_ports));
        fits = among_one n m.to_seat is;
        meets = tt;
        leads = refl;
      }
  shows {m} f (hands_out st en ns w) =
      let r : rank_of C m < count P.plan.ports = listed_here C (lawful P) (accepts P) m f m.step (omega arith) in
      let k : number_of C m < marks P.plan.legs = number-below P.plan.legs m.leg m.step f.leg f.step in
      record {
        ours = (omega (arith, few-marks), omega (arith, few-ranks));
        fits = refl;
        meets = way-done (derangements P.plan.ports) (lawful P) (here C m) m.step (listed_here C (lawful P) (accepts P) m f) m.panel w;
        leads = refl;
      }
  shows f (ends en) = record { ours = few-marks; fits = refl; meets = tt; leads = refl }
  shows f (closes st cl x) = sym (closed-so x).panel
  shows f (errs st lt) = refl
  shows f (refuses k n) = refl

  -- the panel stays a permutation
  pub permutation-on : {m m' : State} {c : Call} {a : Answer} → Fit C m → Does C m c a m' → Permutation P.plan.ports m.panel
      → Permutation P.plan.ports m'.panel
  permutation-on {m} f (moves-on o os st en ns w) q = carry-permutation P.plan.ports o m.panel (shape-so m f o os w) q
  permutation-on f (seats-on sn) q = q
  permutation-on f (hands_out st en ns w) q = q
  permutation-on f (ends en) q = q
  permutation-on f (closes st cl x) q = subst (Permutation P.plan.ports) (sym (closed-so x).panel) q
  permutation-on f (errs st lt) q = q
  permutation-on f (refuses k n) q = q
