-- Going on after a power cut, where the state crosses in words: what the call behind tells and leaves is told and left (`resume-told`, `resume-left`); where the
-- words are no state, the panel's own refusal is told, or 15 (`resume-panel`, `resume-none`).
-- Assumes nothing.
use mathlib.Core.Path.{◌≡◌, sym, ap, ◌∙◌}
use mathlib.Core.Bool.{false}
use mathlib.Core.List.{List}
use mathlib.Core.Option.{none, some}
use Prim.Native.Nat.{ℕ}
use Rattle.listing.specs.Limits.{most_ports}
use Rattle.words.specs.Told.{Told, accepted, refused, nowhere, then, leaves}
use Rattle.words.specs.Meaning.{refusal_of}
use Rattle.words.specs.declared.Refusal.{Refusal}
use Rattle.pattern_check.specs.Calls.{check_as}
use Rattle.campaign_state.specs.declared.State.{State}
use Rattle.campaign_onward.specs.Calls.{going_on, fit_told, resume_of, goes_on}
use Rattle.face_state.specs.States.{state_words, state_in}
use Rattle.face_state.proofs.Back.{words_back}
use Rattle.face_laws.specs.Calls.{states, on_words, left_in, resume_told, resume_words}
use Rattle.face_laws.proofs.OnState.{on-told, off-told}

-- ---- words that are a state

module _ (p ws : List ℕ) {s : State} (e : some s ≡ state_in ws) where
  pub resume-told : resume_of s p ≡ resume_told p ws
  unfolding resume_told resume_of
  resume-told = ap (λ t. then (check_as false most_ports p) (λ x. t)) (on-told states (λ (t : State). fit_told t p) ws e)

  -- the words of the state that is left
  pub resume-left : {left : State} → left ≡ goes_on (resume_of s p) (going_on p s) s → state_words left ≡ resume_words p ws
  unfolding resume_words
  resume-left l = ap state_words l ∙ by (resume_of s p) ∙ ap (λ t. leaves t (left_in states (going_on p) (state_in ws) ws) ws) resume-told
    where
      by : (t : Told (Unit {0})) → state_words (goes_on t (going_on p s) s) ≡ leaves t (left_in states (going_on p) (state_in ws) ws) ws
      by (accepted x) = ap (λ o. left_in states (going_on p) o ws) e
      by (refused k q) = words_back ws s (sym e)

-- ---- words that are none

module _ (p ws : List ℕ) (e : none ≡ state_in ws) where
  -- the panel's own refusal
  pub resume-panel : (f : Refusal) → refusal_of f ≡ check_as false most_ports p → (refusal_of f ≡ resume_told p ws) × (ws ≡ resume_words p ws)
  unfolding resume_told resume_words
  resume-panel f h =
      let told : refusal_of f ≡ resume_told p ws = ap (λ x. then x (λ y. on_words states (λ (t : State). fit_told t p) ws)) h in
      (told, ap (λ t. leaves t (left_in states (going_on p) (state_in ws) ws) ws) told)

  -- on a panel that is one
  pub resume-none : accepted tt ≡ check_as false most_ports p → (refused 15 nowhere ≡ resume_told p ws) × (ws ≡ resume_words p ws)
  unfolding resume_told resume_words
  resume-none h =
      let told : refused 15 nowhere ≡ resume_told p ws = off-told states ws e (λ (t : State). fit_told t p) ∙ ap (λ x. then x (λ y. on_words states (λ (t : State). fit_told t p) ws)) h in
      (told, ap (λ t. leaves t (left_in states (going_on p) (state_in ws) ws) ws) told)
