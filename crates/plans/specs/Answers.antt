-- What the answer to a text says: what the text was judged to be, and the places that the plan is held in.
-- Assumes nothing.
use Rattle.std.specs.Prelude.{ℕ, ◌≡◌}
use Rattle.words.specs.Told.{Told, accepted, then}
use Rattle.words.specs.Meaning.{outcome_told, refusal_of}
use Rattle.plan_rules.specs.Planned.{Planned}
use Rattle.plan_rules.specs.Places.{held_of}
use Rattle.std.specs.declared.result.Result.{Result}
use Rattle.std.specs.declared.result.Result.TheVariants.{Ok, Err}
use Rattle.words.specs.declared.Refusal.{Refusal}
use Rattle.plan_rules.specs.declared.Plan.{Plan}
use Rattle.plans.specs.declared.ReadPlan.{ReadPlan}

-- r is the answer to a text that is told to be a plan, or refused: it is judged so, and the places hold that plan, or zeros
pub record Answers (most : ℕ) (told : Told Planned) (r : ReadPlan) : Type 0 where
  pub judged : outcome_told r.judged ≡ then told (λ p. accepted tt)
  pub plan : r.plan ≡ held_of most told

-- r is the plan that a text is told to be, in its places, or the refusal
abbrev pub PlanTold : ℕ → Told Planned → Result Plan Refusal → Type 0
PlanTold most told (Ok p) = Answers most told (record { judged = Ok tt; plan = p })
PlanTold most told (Err f) = refusal_of f ≡ told
