-- Laws of the lines that are printed: a refusal is two of them, a plan four.
-- Assumes nothing.
use mathlib.Core.Path.{◌≡◌, sym, ap, ◌∙◌}
use mathlib.Core.List.{List, [], ◌∷◌, ◌++◌, append-nil, append_assoc}
use Prim.Native.Nat.{ℕ}
use Rattle.promise.specs.Plan.{Leg}
use Rattle.text_numbers.specs.Decimal.{digits_of}
use Rattle.text_numbers.specs.Signed.{signed_digits}
use Rattle.text_keys.specs.Parts.{newline}
use Rattle.plan_lines.specs.Field.{field_text}
use Rattle.plan_rules.specs.Planned.{run_of}
use Rattle.plans.specs.Grammar.{ports_key, legs_key, start_key, run_key, legs_text, plan_text}
use Rattle.line_refusal.specs.Text.{refused_key, at_key, refusal_text}
use Rattle.benches_laws.specs.Plans.{one_plan_text}

-- a refusal is the line of its number and the line of its place
pub refusal-lines : (k p : ℕ) → refusal_text k p ≡ field_text refused_key (digits_of k) ++ field_text at_key (digits_of p)
unfolding refusal_text
refusal-lines k p =
    let a : List ℕ = refused_key ++ digits_of k in
    ap (λ x. (x ++ digits_of p) ++ (newline ∷ [])) (sym (append_assoc a (newline ∷ []) at_key))
    ∙ ap (λ x. x ++ (newline ∷ [])) (append_assoc (a ++ (newline ∷ [])) at_key (digits_of p))
    ∙ append_assoc (a ++ (newline ∷ [])) (at_key ++ digits_of p) (newline ∷ [])

-- the plan of a bench is four lines
pub plan-lines : (n : ℕ) (l : Leg) → one_plan_text n l
    ≡ field_text ports_key (digits_of n)
    ++ (field_text legs_key (digits_of 1) ++ (field_text start_key (digits_of l.start) ++ field_text run_key (signed_digits (run_of l))))
unfolding plan_text legs_text
plan-lines n l =
    ap (λ x. field_text ports_key (digits_of n) ++ (field_text legs_key (digits_of 1) ++ x))
    (append-nil (field_text start_key (digits_of l.start) ++ field_text run_key (signed_digits (run_of l))))
