-- Where going on is refused: the panel to restore. In every fit state the pattern of the rank that `status` gives is taken by `resume` (`restored`).
-- Assumes nothing.
use mathlib.Core.Path.{◌≡◌, sym, ◌∙◌, subst}
use mathlib.Core.Bool.{true}
use mathlib.Core.List.{List}
use Prim.Native.Nat.{ℕ, ◌≤◌}
use native.Mathlib.Omega.{arith}
use lib.ListN.{length}
use Rattle.listing.specs.Limits.{most_ports}
use Rattle.listing.specs.Listing.{at}
use Rattle.listing.specs.Pattern.{Permutation}
use Rattle.words.specs.Told.{accepted}
use Rattle.words.proofs.Padded.{padded-length, padded-front, padded-beyond}
use Rattle.pattern_check.proofs.Accepted.{Panel, panel-accepted}
use Rattle.promise.specs.Campaign.{with_panel, Setting}
use Rattle.promise.specs.Derangements.{derangements}
use Rattle.promise.specs.Fitness as promise
use Rattle.promise.proofs.Steps.{listed_here}
use Rattle.promise_onward.proofs.Panels.{tells-stand, stand-wanted}
use Rattle.campaign_state.specs.State.{setting_of, moment_of}
use Rattle.campaign_state.specs.Fitness.{fit, Fit}
use Rattle.campaign_state.specs.declared.State.{State}
use Rattle.campaign_state.proofs.Fit.{tells-fit, moment-fit}
use Rattle.campaign_state.proofs.Places.{Sized}
use Rattle.campaign_onward.specs.Calls.{where_of, panel_in, resume_of}
use Rattle.campaign_onward.proofs.Resumes.{goes-fit, panel-taken}
use Rattle.campaign_reached.specs.Turns.{AcceptedPlan}
use Rattle.campaign_reached.proofs.Begun.{lawful, accepts, plan-fits}
use Rattle.campaign_reached.proofs.Own.{own}

module _ (s : State) (z : Sized s) (f : fit s ≡ true) where
  abbrev n : ℕ
  n = s.plan.ports

  abbrev C : Setting
  C = setting_of s

  -- the pattern of its mark
  abbrev q : List ℕ
  q = at n (where_of s).rank

  P : AcceptedPlan
  P = own s z f

  -- it is a permutation
  is : Permutation n q
  unfolding P derangements
  is = (lawful P).listed (where_of s).rank (listed_here C (lawful P) (accepts P) (moment_of s) (moment-fit s f) s.step (omega arith))

  -- with it the state is fit
  fits : fit (panel_in q s) ≡ true
  unfolding P derangements
  fits =
      let g : Fit s = (tells-fit s z).0 f in
      let few = (plan-fits P).many_ports in
      let room : length q ≤ most_ports = omega (arith, is.long, few) in
      let stands = (tells-stand C (moment_of s) g.moment q).1 (stand-wanted C (moment_of s) g.moment (lawful P) (accepts P)) in
      (tells-fit (panel_in q s) (record { starts = z.starts; runs = z.runs; panel = padded-length most_ports 0 q room })).1
      (record {
        plan = g.plan;
        unused = λ i h l. padded-beyond most_ports 0 q i (omega (arith, is.long));
        moment = subst (λ p. promise.Fit C (with_panel p (moment_of s))) (sym (padded-front most_ports n 0 q is.long)) stands;
      })

  pub restored : resume_of s q ≡ accepted tt
  unfolding P
  restored =
      let fewest = (plan-fits P).few_ports in
      let few = (plan-fits P).many_ports in
      let one : Panel most_ports q = record { low = omega (arith, is.long, fewest); high = omega (arith, is.long, few); is = rw is.long is } in
      sym (goes-fit s q is.long (sym fits) ∙ panel-taken s q (panel-accepted most_ports q one))
