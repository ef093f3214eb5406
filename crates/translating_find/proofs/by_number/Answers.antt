-- `translating_find::by_number`: a number that was read is looked up in the dictionary.
-- Assumes nothing.
use mathlib.Core.Path.{◌≡◌, sym, ap, ◌∙◌}
use native.Mathlib.Omega.{arith}
use Rattle.std.proofs.Common.{Some, None}
use Rattle.std.proofs.lemmas.Result.{err_from_is_err_and}
use Rattle.words.specs.Meaning.{refusal_of}
use Rattle.text_numbers.specs.Answers.{read_is}
use Rattle.translating_find.proofs.Found.{no_number, by-numbered}
use Rattle.translating_find.proofs.by_number.Goals as goal

pub returns-in_err-k : goal.returns-in_err-k
returns-in_err-k c =
    let p = err_from_is_err_and c.from_residual.result c.from_residual.ensures.1 in
    let e : c.read_number.result ≡ None = grind (arith, c.ok_or.ensures.value, c.in_err-k.was) in
    let f : c.in_err-k.field-0.0 ≡ c.nowhere.result = grind (arith, c.ok_or.ensures.value, c.in_err-k.was) in
    let found = no_number _ _ _ c.args.p.now (sym (ap read_is e) ∙ c.read_number.ensures) in
    record { told = rw (p.1, p.2) (ap refusal_of (f ∙ c.nowhere.ensures) ∙ found.0); bytes = found.1 }

pub returns : goal.returns
returns c =
    let e : c.read_number.result ≡ Some c.in_ok-k.k = grind (arith, c.ok_or.ensures.value, c.in_ok-k.was) in
    let read = sym (ap read_is e) ∙ c.read_number.ensures in
    let found = by-numbered _ c.args.p.now c.requires.0 c.requires.1 _ read _ _ c.numbered.ensures.answer c.numbered.ensures.bytes in
    record { told = found.0; bytes = found.1 }
