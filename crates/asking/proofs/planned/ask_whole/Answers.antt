-- `asking::planned::ask_whole` passes the plan's refusal on, and asks for all of a plan that was read.
-- Assumes nothing.
use mathlib.Core.Path.{sym, ap, ◌∙◌}
use Rattle.std.proofs.lemmas.Result.{err_from_is_err_and}
use Rattle.words.specs.Meaning.{outcome_told}
use Rattle.plans.proofs.Read.{read-ruled}
use Rattle.asking.proofs.Plans.{whole-refused, whole-read}
use Rattle.asking.proofs.planned.ask_whole.Goals as goal

pub returns-in_err-judged : goal.returns-in_err-judged
returns-in_err-judged c =
    let p = err_from_is_err_and c.from_residual.result c.from_residual.ensures.1 in
    rw (p.1, p.2) (whole-refused _ _ _ (ap outcome_told (sym (c.in_err-judged.was)) ∙ c.read_plan-judged.ensures.judged))

pub invariant_of-result : goal.invariant_of-result
invariant_of-result c =
    record { ruled = read-ruled _ _ (ap outcome_told (sym (c.in_ok-judged.was)) ∙ c.read_plan-judged.ensures.judged) c.read_plan-judged.ensures.plan }

pub returns : goal.returns
returns c =
    whole-read _ _ (ap outcome_told (sym (c.in_ok-judged.was)) ∙ c.read_plan-judged.ensures.judged) c.read_plan-judged.ensures.plan _
