-- What going on tells and leaves, case by case: the panel's own refusal, 15, or the state with the panel put in and its seats begun anew.
-- Assumes nothing.
use mathlib.Core.Path.{◌≡◌, refl, sym, ap, ◌∙◌}
use mathlib.Core.Logic.{◌≢◌}
use mathlib.Core.Bool.{true, false}
use mathlib.Core.List.{List}
use Prim.Native.Nat.{ℕ, ◌≤◌}
use lib.ListN.{length}
use borrow.Author.Tests.{eq-eqb, ne_eqb}
use Rattle.listing.specs.Limits.{most_ports}
use Rattle.words.specs.Told.{Told, accepted, refused, nowhere, then}
use Rattle.words.specs.Meaning.{refusal_of}
use Rattle.pattern_check.specs.Calls.{check_as}
use Rattle.pattern_check.proofs.Accepted.{accepted-panel}
use Rattle.campaign_state.specs.Fitness.{fit}
use Rattle.campaign_state.specs.declared.State.{State}
use Rattle.campaign_onward.specs.Calls.{panel_in, seats_anew, going_on, fit_told, resume_of, goes_on}
use Rattle.campaign_onward.specs.Answers.{GoesIs, ResumeIs}
use Rattle.campaign_onward.specs.declared.Resumed.{Resumed}
use Rattle.words.specs.declared.Refusal.{Refusal}
use Rattle.std.specs.declared.result.Result.TheVariants.{Ok}

module _ (s : State) (p : List ℕ) where
  -- a panel of other ports
  pub other-ports : length p ≢ s.plan.ports → refused 15 nowhere ≡ fit_told s p
  unfolding fit_told
  other-ports h = rw (ne_eqb (length p) s.plan.ports h) refl

  -- a panel with which the state is fit, and one with which it is not
  pub goes-fit : length p ≡ s.plan.ports → true ≡ fit (panel_in p s) → accepted tt ≡ fit_told s p
  unfolding fit_told
  goes-fit e f = rw (eq-eqb (length p) s.plan.ports e, sym f) refl

  pub stays-unfit : length p ≡ s.plan.ports → false ≡ fit (panel_in p s) → refused 15 nowhere ≡ fit_told s p
  unfolding fit_told
  stays-unfit e f = rw (eq-eqb (length p) s.plan.ports e, sym f) refl

  -- the panel's own refusal comes first
  pub panel-first : (f : Refusal) → refusal_of f ≡ check_as false most_ports p → refusal_of f ≡ resume_of s p
  unfolding resume_of
  panel-first f e = ap (λ x. then x (λ y. fit_told s p)) e

  pub panel-taken : accepted tt ≡ check_as false most_ports p → fit_told s p ≡ resume_of s p
  unfolding resume_of
  panel-taken e = ap (λ x. then x (λ y. fit_told s p)) e

-- a refusal leaves the state, whatever the panel
pub stays-told : (t s : State) (f : Refusal) (x : Told (Unit {0})) (r : Resumed) → refusal_of f ≡ x → GoesIs (refusal_of f) s s r → GoesIs x t s r
stays-told t s f x r e g = record { judged = g.judged ∙ e; state = g.state ∙ ap (λ z. goes_on z t s) e }

-- and the state with the panel goes on, its seats begun anew
pub goes_at : (s t u : State) (p : List ℕ) → t ≡ panel_in p s → u ≡ seats_anew t → length p ≡ s.plan.ports → true ≡ fit t
    → GoesIs (fit_told s p) (going_on p s) s (record { campaign = record { state = u }; judged = (Ok tt) })
goes_at s t u p e g l f =
    let h = goes-fit s p l (f ∙ ap fit e) in
    record { judged = h; state = g ∙ ap seats_anew e ∙ ap (λ z. goes_on z (going_on p s) s) h }

-- ---- with the check of the panel before

-- a panel that is one has at most 20 ports
pub few-ports : (p : List ℕ) → accepted tt ≡ check_as false most_ports p → length p ≤ most_ports
few-ports p e = (accepted-panel most_ports p e).high

-- on a panel that is one, what going on with it comes to
pub goes-taken : (s : State) (p : List ℕ) (r : Resumed) → accepted tt ≡ check_as false most_ports p → GoesIs (fit_told s p) (going_on p s) s r → ResumeIs s p r
goes-taken s p r e g = let h = panel-taken s p e in record { judged = g.judged ∙ h; state = g.state ∙ ap (λ z. goes_on z (going_on p s) s) h }
