-- Nothing else meets the contract of `read_plan`: two answers to the same text are the same, every place of the plan included.
-- Assumes nothing.
use mathlib.Core.Path.{◌≡◌, sym, ◌∙◌}
use mathlib.Core.List.{List}
use Prim.Native.Nat.{ℕ}
use Rattle.listing.specs.Limits.{most_legs}
use Rattle.words.proofs.Once.{outcome-once}
use Rattle.plans.specs.Answers.{Answers}
use Rattle.plans.specs.Calls.{read_plan_of}
use Rattle.plans.specs.declared.ReadPlan.{ReadPlan}

-- one answer meets `read_plan`'s contract
pub only-read-plan : (t : List ℕ) (r s : ReadPlan) → Answers most_legs (read_plan_of t) r → Answers most_legs (read_plan_of t) s → r ≡ s
only-read-plan t r s e f =
    let j : r.judged ≡ s.judged = outcome-once r.judged s.judged (e.judged ∙ sym f.judged) in
    let p : r.plan ≡ s.plan = e.plan ∙ sym f.plan in
    λ i. record { judged = j i; plan = p i }
