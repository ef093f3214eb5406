-- One answer meets the contract of each call, and one state that of going on.
-- Assumes nothing.
use mathlib.Core.Path.{◌≡◌, sym, ◌∙◌}
use mathlib.Core.List.{List}
use Prim.Native.Nat.{ℕ}
use Rattle.words.proofs.Once.{answer-once, outcome-once}
use Rattle.campaign_state.specs.declared.State.{State}
use Rattle.campaign_onward.specs.Calls.{status_of}
use Rattle.campaign_onward.specs.Answers.{status_told, ResumeIs}
use Rattle.campaign_onward.specs.declared.Resumed.{Resumed}
use Rattle.std.specs.declared.result.Result.{Result}
use Rattle.words.specs.declared.Refusal.{Refusal}
use Rattle.campaign_onward.specs.declared.Whereabouts.{Whereabouts}

-- two answers that tell the same are the same
status-once : (a b : Result Whereabouts Refusal) → status_told a ≡ status_told b → a ≡ b
status-once r s e = answer-once (λ w. w) (λ a b q. q) r s e

pub only-status : (s : State) (r q : Result Whereabouts Refusal) → status_told r ≡ status_of s → status_told q ≡ status_of s → r ≡ q
only-status s r q e f = status-once r q (e ∙ sym f)

pub only-resume : (s : State) (p : List ℕ) (r q : Resumed) → ResumeIs s p r → ResumeIs s p q → r ≡ q
only-resume s p r q e f =
    let x : r.judged ≡ q.judged = outcome-once r.judged q.judged (e.judged ∙ sym f.judged) in
    let y : r.campaign.state ≡ q.campaign.state = e.state ∙ sym f.state in
    λ i. record { campaign = record { state = y i }; judged = x i }
