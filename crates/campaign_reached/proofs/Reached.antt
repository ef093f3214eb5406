-- The states that calls on an accepted plan leave: each is a state of the plan's campaign, fit, with a permutation on its panel (`reached-after`); and what a
-- call does there is what the model does (`does-there`).
-- Assumes nothing.
use mathlib.Core.Path.{◌≡◌, sym, subst, ◌∙◌}
use mathlib.Core.List.{List, [], ◌∷◌}
use Rattle.listing.specs.Pattern.{Permutation}
use Rattle.promise.specs.Campaign.{Setting, Call, first, answer, after}
use Rattle.promise.specs.Fitness.{Fit}
use Rattle.promise.specs.Derangements.{derangements}
use Rattle.promise.proofs.Steps.{Does, does-so, fit-first, fit-after}
use Rattle.campaign_state.specs.State.{setting_of, moment_of}
use Rattle.campaign_state.specs.declared.State.{State}
use Rattle.campaign.specs.Calls.{answer_of, left_of}
use Rattle.campaign_reached.specs.Turns.{AcceptedPlan, campaign_of, begun, Called, call_of, left_after}
use Rattle.campaign_reached.proofs.Begun.{lawful, accepts, begun_kept, begun-setting, begun-moment}
use Rattle.campaign_reached.proofs.Kept.{Kept, left-kept, left-setting, answer-on, left-on}
use Rattle.campaign_reached.proofs.Shown.{permutation-on}

-- a state of the plan's campaign that calls may leave
pub record Reached (P : AcceptedPlan) (s : State) : Type 0 where
  pub kept : Kept s
  pub setting : setting_of s ≡ campaign_of P
  pub fit : Fit (campaign_of P) (moment_of s)
  pub permutation : Permutation P.plan.ports (moment_of s).panel

module _ (P : AcceptedPlan) where
  abbrev C : Setting
  C = campaign_of P

  -- the state that the text leaves
  pub reached-first : Reached P (begun P)
  unfolding first derangements
  reached-first = record {
    kept = begun_kept P;
    setting = begun-setting P;
    fit = subst (Fit C) (sym (begun-moment P)) (fit-first C (lawful P) (accepts P));
    permutation = subst (λ m. Permutation P.plan.ports m.panel) (sym (begun-moment P)) (lawful P).home;
  }

  module _ (s : State) (R : Reached P s) (c : Call) where
    -- what a call does there
    pub does-there : Does C (moment_of s) c (answer_of c s) (moment_of (left_of c s))
    does-there =
        let m = moment_of s in
        let left = left-on C s R.kept R.setting c in
        let said = answer-on C s R.kept R.setting c in
        subst (Does C m c (answer_of c s)) (sym left)
        (subst (λ a. Does C m c a (after C c (answer C c m) m)) (sym said) (does-so C m R.fit c))

    -- the state that it leaves is such a state again
    pub reached-left : Reached P (left_of c s)
    reached-left = record {
      kept = left-kept s R.kept c;
      setting = left-setting s R.kept c ∙ R.setting;
      fit = fit-after C (lawful P) (accepts P) R.fit does-there;
      permutation = permutation-on P R.fit does-there R.permutation;
    }

  -- so after any calls
  reached-by : (cs : List Called) (s : State) → Reached P s → Reached P (left_after cs s)
  unfolding left_after
  reached-by [] s R = R
  reached-by (c ∷ cs) s R = reached-by cs (left_of (call_of c) s) (reached-left s R (call_of c))

  pub reached-after : (cs : List Called) → Reached P (left_after cs (begun P))
  reached-after cs = reached-by cs (begun P) reached-first
