-- `asking::planned::ask_mark` reads the line of the mark, as line 0, and the text after it as the plan.
-- Assumes nothing.
use mathlib.Core.Path.{sym, ap, subst, ◌∙◌}
use lib.ListN.{drop}
use Rattle.std.proofs.lemmas.Result.{err_from_is_err_and}
use Rattle.plan_lines.specs.Places.{line_told}
use Rattle.text_keys.proofs.Cuts.{to_the_end}
use Rattle.asking.specs.Questions.{marked_asked}
use Rattle.asking.specs.Answers.{QuestionIs}
use Rattle.asking.proofs.Plans.{line_refused, line_read}
use Rattle.asking.proofs.planned.ask_mark.Goals as goal

pub returns-in_err-k : goal.returns-in_err-k
returns-in_err-k c =
    let p = err_from_is_err_and c.from_residual.result c.from_residual.ensures.1 in
    rw (p.1, p.2) (line_refused _ _ _ (sym (ap (line_told _) (c.in_err-k.was)) ∙ c.value_at.ensures.told))

pub returns : goal.returns
returns c =
    subst (λ told. QuestionIs told c.ask_marked.result)
    (ap (marked_asked c.in_ok-k.k.magnitude) (to_the_end c.args.text.now c.in_ok-k.next)
    ∙ line_read c.args.text.now (record { value = c.in_ok-k.k; rest = drop c.in_ok-k.next c.args.text.now })
    (sym (ap (line_told _) (c.in_ok-k.was)) ∙ c.value_at.ensures.told))
    c.ask_marked.ensures
