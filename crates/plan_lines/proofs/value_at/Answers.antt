-- `plan_lines::value_at` reads the value between the key and the newline: no number is 8, a value that is not good has the refusal of its kind.
use mathlib.Core.Path.{◌≡◌, sym, ap, ◌∙◌}
use native.Mathlib.Omega.{arith}
use lib.ListN.{drop}
use Rattle.std.proofs.lemmas.Result.{err_from_is_err_and}
use Rattle.listing.specs.Limits.{largest64}
use Rattle.words.specs.Told.{refused, at_line}
use Rattle.words.specs.Meaning.{number_of, refusal_of}
use Rattle.words.specs.declared.Signed.{Signed}
use Rattle.text_numbers.specs.Answers.{signed_is}
use Rattle.plan_lines.specs.Field.{Got}
use Rattle.plan_lines.specs.Places.{field_of}
use Rattle.plan_lines.proofs.Lines.{field-refused, no_number, value_taken, value-refused}
use Rattle.plan_lines.proofs.value_at.Goals as goal

pub returns-then-good-clause-told : goal.returns-then-good-clause-told
returns-then-good-clause-told c =
    value_taken (field_of largest64 c.args.key.now c.args.values) c.args.line (drop c.args.at c.args.text.now) _ c.in_ok-from.ensures.told _
    (sym (ap signed_is c.in_ok-value.ensures.ok_part) ∙ c.value_in.ensures) c.if-good.ensures

pub returns-in_err-from-clause-told : goal.returns-in_err-from-clause-told
returns-in_err-from-clause-told c =
    let p = err_from_is_err_and c.from_residual.result c.from_residual.ensures.1 in
    rw (p.1, p.2) (field-refused (field_of largest64 c.args.key.now c.args.values) c.args.line (drop c.args.at c.args.text.now) _ _ c.in_err-from.ensures.told)

pub returns-in_err-value-clause-told : goal.returns-in_err-value-clause-told
returns-in_err-value-clause-told c =
    let p = err_from_is_err_and c.from_residual-in_err-value.result c.from_residual-in_err-value.ensures.1 in
    let why : c.in_err-value.field-0.0 ≡ c.at_line.result = grind (arith, c.in_err-value.ensures.value, c.in_err-value.ensures.ok_part) in
    rw (p.1, p.2, why, c.at_line.ensures)
    (no_number (field_of largest64 c.args.key.now c.args.values) c.args.line (drop c.args.at c.args.text.now) _ c.in_ok-from.ensures.told
    (sym (ap signed_is c.in_err-value.ensures.ok_part) ∙ c.value_in.ensures))

pub returns-else-good-clause-told : goal.returns-else-good-clause-told
returns-else-good-clause-told c =
    let told : refusal_of {A = Got Signed} c.at_line-else-good.result ≡ refused (number_of c.args.values.reason) (at_line c.args.line) = ap refusal_of c.at_line-else-good.ensures in
    told
    ∙ value-refused (field_of largest64 c.args.key.now c.args.values) c.args.line (drop c.args.at c.args.text.now) _ c.in_ok-from.ensures.told _
    (sym (ap signed_is c.in_ok-value.ensures.ok_part) ∙ c.value_in.ensures) c.if-good.ensures
