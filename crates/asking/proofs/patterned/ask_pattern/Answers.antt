-- `asking::patterned::ask_pattern` asks where the line ends: it has to be the whole text, and the entries stand in it.
-- Assumes nothing.
use mathlib.Core.Path.{◌≡◌, sym, ap, subst, ◌∙◌}
use native.Mathlib.Omega.{arith}
use lib.ListN.{take}
use Rattle.std.proofs.Common.{Some, None}
use Rattle.std.proofs.lemmas.Result.{err_from_is_err_and}
use Rattle.words.specs.Told.{accepted, refused, nowhere}
use Rattle.words.specs.Meaning.{refusal_of}
use Rattle.text_entries.specs.Pieces.{line_is}
use Rattle.asking.specs.Answers.{QuestionIs}
use Rattle.asking.proofs.Patterns.{line-asked}
use Rattle.asking.proofs.patterned.ask_pattern.Goals as goal

pub returns-in_err-k : goal.returns-in_err-k
returns-in_err-k c =
    let p = err_from_is_err_and c.from_residual.result c.from_residual.ensures.1 in
    let e : c.one_line.result ≡ None = grind (arith, c.ok_or.ensures.value, c.in_err-k.was) in
    let f : c.in_err-k.field-0.0 ≡ c.nowhere.result = grind (arith, c.ok_or.ensures.value, c.in_err-k.was) in
    rw (p.1, p.2)
    (ap refusal_of (f ∙ c.nowhere.ensures) ∙ line-asked _ (refused 11 nowhere) (sym (ap (line_is _) e) ∙ c.one_line.ensures.line))

pub returns : goal.returns
returns c =
    let e : c.one_line.result ≡ Some c.in_ok-k.k = grind (arith, c.ok_or.ensures.value, c.in_ok-k.was) in
    subst (λ told. QuestionIs told c.ask_entries.result)
    (line-asked _ (accepted (take c.in_ok-k.k c.args.t.now)) (sym (ap (line_is _) e) ∙ c.one_line.ensures.line))
    c.ask_entries.ensures
