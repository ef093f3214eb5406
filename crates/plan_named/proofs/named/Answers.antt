-- `plan_named::named` passes the plan's refusal on, or goes on with the plan, which is within the rules.
-- Assumes nothing.
use mathlib.Core.Path.{sym, ap, ◌∙◌}
use Rattle.std.proofs.lemmas.Result.{err_from_is_err_and}
use Rattle.words.specs.Meaning.{outcome_told}
use Rattle.plans.proofs.Read.{Taken, read-ruled, read-planned}
use Rattle.plan_named.proofs.Surveys.{text-refused, text-read}
use Rattle.plan_named.proofs.named.Goals as goal
use Rattle.plan_named.proofs.named.Goals.{In_ok-read}

-- the text was accepted
taken : (c : In_ok-read) → Taken c.args.text.now
taken c = ap outcome_told (sym c.in_ok-read.was) ∙ c.read_plan-read.ensures.judged

pub invariant_of-fit_gaps : goal.invariant_of-fit_gaps
invariant_of-fit_gaps c =
    record { ruled = read-ruled _ _ (taken (goal.at.invariant_of-fit_gaps c).In_ok-read) c.read_plan-read.ensures.plan }

pub returns-clause-answer : goal.returns-clause-answer
returns-clause-answer c =
    let w = text-read c.args.text.now c.args.gaps.now _ (read-planned _ _ (taken (goal.at.returns-clause-answer c).In_ok-read) c.read_plan-read.ensures.plan) in
    c.fit_gaps.ensures.answer ∙ w.0

pub returns-clause-numbers : goal.returns-clause-numbers
returns-clause-numbers c =
    let w = text-read c.args.text.now c.args.gaps.now _ (read-planned _ _ (taken (goal.at.returns-clause-numbers c).In_ok-read) c.read_plan-read.ensures.plan) in
    c.fit_gaps.ensures.numbers ∙ w.1

pub returns-in_err-read-clause-answer : goal.returns-in_err-read-clause-answer
returns-in_err-read-clause-answer c =
    let p = err_from_is_err_and c.from_residual.result c.from_residual.ensures.1 in
    rw (p.1, p.2) (text-refused c.args.text.now c.args.gaps.now _ _ (ap outcome_told (sym c.in_err-read.was) ∙ c.read_plan-read.ensures.judged)).0

pub returns-in_err-read-clause-numbers : goal.returns-in_err-read-clause-numbers
returns-in_err-read-clause-numbers c =
    (text-refused c.args.text.now c.args.gaps.now _ _ (ap outcome_told (sym c.in_err-read.was) ∙ c.read_plan-read.ensures.judged)).1
