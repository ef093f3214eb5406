-- `asking::planned::ask_marked` passes the plan's refusal on, and asks for the mark if the plan has it.
-- Assumes nothing.
use mathlib.Core.Path.{sym, ap, ◌∙◌}
use native.Mathlib.Omega.{arith}
use Rattle.std.proofs.lemmas.Result.{err_from_is_err_and}
use Rattle.words.specs.Meaning.{refusal_of, outcome_told}
use Rattle.plans.proofs.Read.{read-ruled}
use Rattle.asking.proofs.Plans.{marked_refused, mark-read, no-such-mark}
use Rattle.asking.proofs.planned.ask_marked.Goals as goal

pub invariant_of-ruled : goal.invariant_of-ruled
invariant_of-ruled c =
    record { ruled = read-ruled _ _ (ap outcome_told (sym (c.in_ok-judged.was)) ∙ c.read_plan-judged.ensures.judged) c.read_plan-judged.ensures.plan }

pub returns-in_err-judged : goal.returns-in_err-judged
returns-in_err-judged c =
    let p = err_from_is_err_and c.from_residual.result c.from_residual.ensures.1 in
    rw (p.1, p.2) (marked_refused _ _ _ _ (ap outcome_told (sym (c.in_err-judged.was)) ∙ c.read_plan-judged.ensures.judged))

pub returns-then-k-marks_before : goal.returns-then-k-marks_before
returns-then-k-marks_before c =
    mark-read _ _ (ap outcome_told (sym (c.in_ok-judged.was)) ∙ c.read_plan-judged.ensures.judged) c.read_plan-judged.ensures.plan _ _
    (omega (arith, c.marks_before.ensures))

pub returns-else-k-marks_before : goal.returns-else-k-marks_before
returns-else-k-marks_before c =
    ap refusal_of c.nowhere.ensures
    ∙ no-such-mark _ _ (ap outcome_told (sym (c.in_ok-judged.was)) ∙ c.read_plan-judged.ensures.judged) c.read_plan-judged.ensures.plan _
    (omega (arith, c.marks_before.ensures))
