-- Reports that are sent twice: one that names its mark and closes it is refused with 12 ever after, whatever calls come between (`named-left` for the code,
-- `named-words` for the calls for C, on any words). So it is never taken for another mark, which was not run.
-- Assumes nothing.
use mathlib.Core.Path.{◌≡◌, refl, sym, ap, ◌∙◌}
use mathlib.Core.Bool.{true}
use mathlib.Core.List.{List, map}
use mathlib.Core.Option.{some}
use Prim.Native.Nat.{ℕ, ◌≤◌}
use Rattle.listing.proofs.Numbers.{either, test}
use Rattle.words.specs.Told.{accepted, refused, nowhere}
use Rattle.words.proofs.Told.{not-both}
use Rattle.promise.specs.Campaign.{Setting, Call, report_on, report_of, is_closing, taken, refusal, answer}
use Rattle.promise.specs.Bench.{run, leaves}
use Rattle.promise_onward.proofs.Repeats.{refused-later}
use Rattle.campaign_state.specs.State.{setting_of, moment_of}
use Rattle.campaign_state.specs.Fitness.{fit}
use Rattle.campaign_state.specs.declared.State.{State}
use Rattle.campaign_state.proofs.Places.{Sized}
use Rattle.campaign.specs.Calls.{answer_of, told_of, left_of}
use Rattle.campaign.proofs.Asked.{unfit-answer}
use Rattle.campaign.proofs.Tells.{told-given}
use Rattle.campaign_reached.specs.Turns.{AcceptedPlan, Called, call_of, left_after}
use Rattle.campaign_reached.proofs.Begun.{lawful, accepts}
use Rattle.campaign_reached.proofs.Kept.{turns-model, left_so, left-model, left-kept, left-setting, answer-on}
use Rattle.campaign_reached.proofs.Own.{own, own-reached}
use Rattle.campaign_reached.proofs.Reached.{Reached}
use Rattle.face_state.specs.States.{state_at, state_in, within, limits}
use Rattle.face_state.proofs.StateWords.{is_state, no-state}
use Rattle.face_laws.specs.Calls.{states, told_by, called_told, called_words}
use Rattle.face_laws.proofs.OnState.{on-told, off-told}
use Rattle.face_reached.proofs.InRange.{words-hold}
use Rattle.face_reached.proofs.Read.{Read, read-own, read_left, told-there}
use Rattle.demands.specs.Words.{words_after}
use Rattle.demands.proofs.Words.{after_read}

-- a state on which a report is taken is fit
taken-fit : (c : Call) (s : State) → answer_of c s ≡ taken → fit s ≡ true
taken-fit c s e = either (test (fit s)) (λ f. f) (λ f. absurd (not-both (ap told_of (sym (unfit-answer c s f) ∙ e))))

module _ (m kind : ℕ) (cl : is_closing (report_of kind) ≡ true) (cs : List Called) (again : ℕ) (few : again ≤ 2) where
  -- of every state
  pub named-left : (s : State) → Sized s → answer_of (report_on m kind) s ≡ taken
      → answer_of (report_on m again) (left_after cs (left_of (report_on m kind) s)) ≡ refusal 12
  named-left s z e =
      let c : Call = report_on m kind in
      let P : AcceptedPlan = own s z (taken-fit c s e) in
      let R : Reached P s = own-reached s z (taken-fit c s e) in
      let C : Setting = setting_of s in
      let t : State = left_of c s in
      let k = left-kept s R.kept c in
      let same = left-setting s R.kept c in
      let on = left_so C cs t k same in
      let there : moment_of (left_after cs t) ≡ leaves (moment_of t) (run C (map call_of cs) (moment_of t)) =
      on.moment ∙ ap (leaves (moment_of t)) (turns-model C cs t k same) in
      answer-on C (left_after cs t) on.kept on.setting (report_on m again)
      ∙ ap (answer C (report_on m again)) (there ∙ ap (λ u. leaves u (run C (map call_of cs) u)) (left-model s R.kept c))
      ∙ refused-later C (lawful P) (accepts P) (moment_of s) R.fit m kind (sym (answer-on C s R.kept refl c) ∙ e) cl (map call_of cs) again few

  -- and of any words: jidrofex_report_mark
  pub named-words : (ws : List ℕ) → called_told (report_on m kind) ws ≡ accepted taken
      → called_told (report_on m again) (words_after cs (called_words (report_on m kind) ws)) ≡ refused 12 nowhere
  named-words ws e =
      either (test (within ws limits)) (λ t. by (state_at ws) (sym (is_state ws t (state_at ws) refl)))
      (λ t. absurd (not-both (off-told states ws (no-state ws t) (told_by (report_on m kind)) ∙ e)))
    where
      by : (s : State) → state_in ws ≡ some s → called_told (report_on m again) (words_after cs (called_words (report_on m kind) ws)) ≡ refused 12 nowhere
      by s is =
          let c : Call = report_on m kind in
          let e' : answer_of c s ≡ taken = told-given (answer_of c s) (on-told states (told_by c) ws (sym is) ∙ e) in
          let z : Sized s = (words-hold ws s is).sized in
          let P : AcceptedPlan = own s z (taken-fit c s e') in
          let r : Read P ws s = read-own ws s is (taken-fit c s e') in
          told-there P _ _ (after_read P cs _ _ (read_left P ws s r c)) (report_on m again) ∙ ap told_of (named-left s z e')
