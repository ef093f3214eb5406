-- Every state that calls leave is in range: each field is a number that its word can hold (`in-range`), so that words and state are each other's inverse there.
-- Assumes nothing.
use mathlib.Core.Path.{◌≡◌, refl, sym, subst, ◌∙◌}
use mathlib.Core.Bool.{Bool, true, false, cond, and-eq-true_iff}
use mathlib.Core.List.{List, [], ◌∷◌, map}
use mathlib.Core.Option.{some}
use Prim.Native.Nat.{ℕ, zero, suc, ◌≤◌, ◌<◌}
use native.Mathlib.Omega.{arith}
use lib.IntN.{ℤ, pos}
use lib.ListN.{length, get_or, take, get_or-map, get_or-eq_default}
use lib.Seq.{length-take-le, get_or-take}
use mir.Syntax.{w64}
use mir.Val.{SFits}
use Rattle.listing.specs.Count.{count}
use Rattle.listing.specs.Ends.{home}
use Rattle.listing.specs.Limits.{most_ports, most_legs, largest64}
use Rattle.listing.specs.Pattern.{Permutation}
use Rattle.listing.proofs.Limits.{count_most}
use Rattle.listing.proofs.Numbers.{either, below?}
use Rattle.words.specs.Padded.{padded}
use Rattle.words.specs.Signs.{with_sign, signed_limit}
use Rattle.words.proofs.Padded.{padded-length, padded-beyond}
use Rattle.words.proofs.WithSign.{behind-fits}
use Rattle.promise.specs.Plan.{Leg, marks}
use Rattle.promise.specs.Campaign.{Call, Setting, closed_marks, number_of}
use Rattle.promise.specs.Derangements.{derangements}
use Rattle.promise.proofs.Legs.{number-below}
use Rattle.plan_rules.specs.Places.{placed, held_of}
use Rattle.plan_rules.specs.Planned.{Planned, run_of, EachFits}
use Rattle.plan_rules.specs.Planned.{device}
use Rattle.plan_rules.specs.Rules.{Ruled, plan_ruled}
use Rattle.plan_rules.proofs.Held.{held-places, each_fits}
use Rattle.plans.proofs.Longest.{marks-most}
use Rattle.campaign_state.specs.declared.State.{State}
use Rattle.campaign_state.specs.State.{moment_of}
use Rattle.campaign_state.specs.Fitness.{empty_from, places_fit}
use Rattle.campaign_state.proofs.Places.{Sized, rules, tells-empty}
use Rattle.campaign.specs.Calls.{left_of, first_state}
use Rattle.campaign_reached.specs.Turns.{AcceptedPlan, campaign_of, begun}
use Rattle.campaign_reached.proofs.Begun.{length-home, plan-fits}
use Rattle.campaign_reached.proofs.Kept.{Kept, left-places}
use Rattle.campaign_reached.proofs.Reached.{Reached}
use Rattle.face_state.proofs.Parts.{inside}
use Rattle.face_state.specs.States.{starts_place, runs_place, run_in, state_words, limits, within, words_at, state_in}
use Rattle.face_state.proofs.Within.{within-length}
use Rattle.face_state.proofs.Runs.{run_fits}
use Rattle.face_state.proofs.RehearsalWords.{sized-at}
use Rattle.face_state.proofs.Back.{InRange, state-back, at-state, is_within, part_held}

-- what the places of a state hold of its plan: so many of each, starts of 64 bits and signed runs of 64 bits
pub record Holds (s : State) : Type 0 where
  pub sized : Sized s
  pub starts : (i : ℕ) → get_or s.plan.starts i 0 ≤ largest64
  pub runs : (i : ℕ) → SFits w64 (get_or s.plan.runs i (pos 0))

-- ---- the first state

-- what holds of each entry of a list, and of what stands beyond it, holds of each place that it is in
all-places : {A : Type 0} (Is : A → Type 0) (most : ℕ) (z : A) (l : List A) → Is z → ((i : ℕ) → i < length l → Is (get_or l i z))
    → (i : ℕ) → Is (get_or (padded most z l) i z)
all-places Is most z l e h i =
    either (below? i (length l))
    (λ low. rw (inside l _ (length l) i z refl low) (h i low))
    (λ high. rw (padded-beyond most z l i high) e)

-- the starts of legs that fit, and their runs
each_start : (size : ℕ) (ls : List Leg) → EachFits size ls → size ≤ largest64 → (i : ℕ) → get_or (map (λ l. l.start) ls) i 0 ≤ largest64
each_start size [] f h i = omega arith
each_start size (l ∷ ls) f h zero = omega (arith, f.0.start)
each_start size (l ∷ ls) f h (suc i) = each_start size ls f.1 h i

run-held : (back : Bool) (m : ℕ) → m < signed_limit → SFits w64 (with_sign (record { back = back; magnitude = m }))
run-held true m h = behind-fits m h
run-held false m h = record { sfits = h }

each-run : (size : ℕ) (ls : List Leg) → EachFits size ls → size ≤ signed_limit → (i : ℕ) → SFits w64 (get_or (map (λ l. with_sign (run_of l)) ls) i (pos 0))
each-run size [] f h i = record { sfits = omega arith }
each-run size (l ∷ ls) f h zero = run-held l.back l.run (omega (arith, f.0.run))
each-run size (l ∷ ls) f h (suc i) = each-run size ls f.1 h i

module _ (P : AcceptedPlan) where
  abbrev p : Planned
  p = P.plan

  -- the state that an accepted text leaves
  pub begun-holds : Holds (begun P)
  unfolding placed
  begun-holds =
      let f = plan-fits P in
      let most = count_most p.ports f.many_ports in
      let places = held-places most_legs p f.many_legs in
      let xs : List ℕ = map (λ l. l.start) p.legs in
      let zs : List ℤ = map (λ l. with_sign (run_of l)) p.legs in
      let held : Holds (first_state (placed most_legs p)) = record {
        sized = record {
          starts = places.0;
          runs = places.1;
          panel = padded-length most_ports 0 (home p.ports) (omega (arith, length-home p.ports, f.many_ports));
        };
        starts = all-places (λ v. v ≤ largest64) most_legs 0 xs (omega arith) (λ i b. each_start (count p.ports) p.legs f.each (omega arith) i);
        runs = all-places (SFits w64) most_legs (pos 0) zs (record { sfits = omega arith }) (λ i b. each-run (count p.ports) p.legs f.each (omega arith) i);
      } in
      subst (λ r. Holds (first_state (held_of most_legs r))) (sym P.accepts) held

-- ---- the state that words are

-- words that are a state hold its plan
pub words-hold : (ws : List ℕ) (s : State) → state_in ws ≡ some s → Holds s
unfolding run_in
words-hold ws s e =
    let fits : within ws limits ≡ true = is_within ws s e in
    let part : (i : ℕ) → get_or (words_at ws runs_place most_legs) i 0 ≤ largest64 = part_held ws fits runs_place most_legs in
    subst Holds (at-state ws s e) (record {
      sized = sized-at ws (within-length ws limits fits);
      starts = part_held ws fits starts_place most_legs;
      runs = λ i. subst (SFits w64) (sym (get_or-map run_in (words_at ws runs_place most_legs) i 0)) (run_fits (get_or (words_at ws runs_place most_legs) i 0) (part i));
    })

-- ---- what a call leaves

module _ (s : State) (k : Kept s) (h : Holds s) (c : Call) where
  pub left-holds : Holds (left_of c s)
  unfolding left_of
  left-holds = record {
    sized = record { starts = h.sized.starts; runs = h.sized.runs; panel = left-places s k c ∙ h.sized.panel };
    starts = h.starts;
    runs = h.runs;
  }

-- ---- in range

-- each jack of a panel that is one holds a port
each-port : (n : ℕ) (q : List ℕ) → Permutation n q → (i : ℕ) → i < n → get_or q i 0 ≤ n
each-port n q P i h = (P.ports (suc i) (omega arith, omega arith)).1

module _ (P : AcceptedPlan) (s : State) (R : Reached P s) (h : Holds s) where
  abbrev C : Setting
  C = campaign_of P

  -- within the rules
  ruled : Ruled device s.plan
  ruled = rules s h.sized R.kept.fit

  -- and nothing beyond the ports
  places-empty : empty_from s.plan.ports s.panel ≡ true
  unfolding places_fit
  places-empty = ((and-eq-true_iff (plan_ruled device s.plan) (empty_from s.plan.ports s.panel)).0 R.kept.fit).1

  -- the panel has the plan's ports
  ports : s.plan.ports ≡ P.plan.ports
  ports = sym (length-take-le s.plan.ports s.panel R.kept.room) ∙ R.permutation.long

  -- each place of the panel holds a port, or nothing beyond them
  on-panel : (i : ℕ) → get_or s.panel i 0 ≤ most_ports
  on-panel i =
      either (below? i s.plan.ports)
      (λ low.
      omega (arith, each-port P.plan.ports (take s.plan.ports s.panel) R.permutation i (omega (arith, ports)), get_or-take s.plan.ports s.panel i 0 low, ports, ruled.fits.many_ports))
      (λ high.
      either (below? i (length s.panel))
      (λ in'. omega (arith, (tells-empty s.plan.ports s.panel).0 places-empty i high in'))
      (λ out. omega (arith, get_or-eq_default s.panel 0 {n = i} out)))

  -- no more marks are closed than there are
  few-closed : closed_marks C (moment_of s) ≤ marks P.plan.legs
  few-closed = by s.ended
    where
      by : (b : Bool) → cond b (marks P.plan.legs) (number_of C (moment_of s)) ≤ marks P.plan.legs
      by true = omega arith
      by false = omega (arith, number-below P.plan.legs s.leg s.step R.fit.leg R.fit.step)

  -- the next jack to seat is one of the panel, or none
  on-seat : s.seat ≤ most_ports
  unfolding derangements
  on-seat = omega (arith, R.fit.seat, (plan-fits P).many_ports)

  pub in-range : InRange s
  in-range =
      let f = plan-fits P in
      let here = each_fits (count P.plan.ports) P.plan.legs f.each s.leg R.fit.leg in
      let most = count_most P.plan.ports f.many_ports in
      let many = marks-most P.text P.plan P.accepts in
      record {
        sized = h.sized;
        ports = omega (arith, ruled.fits.many_ports);
        legs = omega (arith, ruled.legs);
        starts = h.starts;
        runs = h.runs;
        panel = λ i. omega (arith, on-panel i);
        leg = omega (arith, R.fit.leg, f.many_legs);
        step = omega (arith, R.fit.step, here.run);
        covered = omega (arith, R.fit.counts, few-closed);
        opened = omega (arith, R.fit.counts, few-closed);
        errors = omega (arith, R.fit.errors);
        seat = omega (arith, on-seat);
      }

  -- so the state is read back from its words
  pub reached-back : state_in (state_words s) ≡ some s
  reached-back = state-back s in-range
