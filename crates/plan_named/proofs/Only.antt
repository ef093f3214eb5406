-- Nothing else meets the contract of `named`: two answers that tell the same are the same, and the numbers that it leaves are one list.
-- Assumes nothing.
use mathlib.Core.Path.{◌≡◌, sym, ap, ap₂, ◌∙◌}
use mathlib.Core.List.{List}
use Prim.Native.Nat.{ℕ}
use Rattle.words.proofs.Once.{answer-once}
use Rattle.plan_arcs.specs.declared.gaps.Tally.{Tally}
use Rattle.plan_named.specs.Calls as calls
use Rattle.plan_named.specs.Calls.{named_of, named_numbers}
use Rattle.plan_named.specs.Answers.{tally_is, survey_told}
use Rattle.std.specs.declared.result.Result.{Result}
use Rattle.words.specs.declared.Refusal.{Refusal}

tally-once : (a b : Tally) → tally_is a ≡ tally_is b → a ≡ b
tally-once a b e = ap₂ {C = Tally} (λ x y. record { named = x; gaps = y }) (ap (λ (n : calls.Names). n.ranks) e) (ap (λ (n : calls.Names). n.gaps) e)

survey-once : (r s : Result Tally Refusal) → survey_told r ≡ survey_told s → r ≡ s
survey-once r s e = answer-once tally_is tally-once r s e

pub only-named : (t old : List ℕ) (r s : Result Tally Refusal) (b c : List ℕ)
    → survey_told r ≡ named_of t old → b ≡ named_numbers t old
    → survey_told s ≡ named_of t old → c ≡ named_numbers t old → (r ≡ s) × (b ≡ c)
only-named t old r s b c e d f g = (survey-once r s (e ∙ sym f), d ∙ sym g)
