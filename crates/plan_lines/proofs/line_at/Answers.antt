-- `plan_lines::line_at` finds the newline and then the key: without the one it tells 11, without the other 7.
use mathlib.Core.Path.{◌≡◌, sym, ap, ◌∙◌}
use mathlib.Core.Option.{some}
use Prim.Native.Nat.{◌+◌, ◌<◌}
use lib.ListN.{length}
use native.Mathlib.Omega.{arith}
use Rattle.std.proofs.lemmas.Result.{err_from_is_err_and}
use Rattle.words.specs.Told.{refused, at_line}
use Rattle.words.specs.Meaning.{refusal_of}
use Rattle.text_keys.specs.Parts.{newline, first_of, Parts}
use Rattle.text_keys.specs.Answers.{found_is}
use Rattle.plan_lines.specs.Places.{part}
use Rattle.plan_lines.proofs.Lines.{line-open, line-within, key-missing, key-found, key-within}
use Rattle.plan_lines.proofs.line_at.Goals as goal
use Rattle.plan_lines.proofs.line_at.Goals.{In_ok-to}

-- the newline stands so far after the place
at-newline : (c : In_ok-to) → some c.in_ok-to.field-0 ≡ first_of newline (part c.args.at (length c.args.text.now) c.args.text.now)
at-newline c = sym (ap found_is c.in_ok-to.ensures.ok_part) ∙ c.find.ensures

-- so it stands in the text
inside : (c : In_ok-to) → c.args.at + c.in_ok-to.field-0 < length c.args.text.now
inside c = line-within c.args.text.now c.args.at c.args.key.now c.args.line _ (at-newline c) c.requires

pub overflow_add-to : goal.overflow_add-to
overflow_add-to c = omega (arith, inside c)

pub slice_bounds-has_key-end : goal.slice_bounds-has_key-end
slice_bounds-has_key-end c = omega (arith, inside c)

pub returns-then-has_key-clause-told : goal.returns-then-has_key-clause-told
returns-then-has_key-clause-told c =
    key-found c.args.text.now c.args.at c.args.key.now c.args.line _ (at-newline (goal.at.returns-then-has_key-clause-told c).In_ok-to) c.if-has_key.ensures

pub returns-then-has_key-clause-within : goal.returns-then-has_key-clause-within
returns-then-has_key-clause-within c =
    let to = (goal.at.returns-then-has_key-clause-within c).In_ok-to in
    (key-within c.args.text.now c.args.at c.args.key.now c.args.line _ (at-newline to) c.if-has_key.ensures (inside to), inside to)

pub returns-else-has_key-clause-told : goal.returns-else-has_key-clause-told
returns-else-has_key-clause-told c =
    let told : refusal_of {A = Parts} c.at_line-else-has_key.result ≡ refused 7 (at_line c.args.line) = ap refusal_of c.at_line-else-has_key.ensures in
    told ∙ key-missing c.args.text.now c.args.at c.args.key.now c.args.line _ (at-newline (goal.at.returns-else-has_key-clause-told c).In_ok-to) c.if-has_key.ensures

pub returns-in_err-to-clause-told : goal.returns-in_err-to-clause-told
returns-in_err-to-clause-told c =
    let p = err_from_is_err_and c.from_residual.result c.from_residual.ensures.1 in
    let why : c.in_err-to.field-0.0 ≡ c.at_line.result = grind (arith, c.in_err-to.ensures.value, c.in_err-to.ensures.ok_part) in
    rw (p.1, p.2, why, c.at_line.ensures)
    (line-open c.args.text.now c.args.at c.args.key.now c.args.line (sym (ap found_is c.in_err-to.ensures.ok_part) ∙ c.find.ensures))
