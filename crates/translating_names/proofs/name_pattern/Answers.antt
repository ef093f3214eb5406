-- `translating_names::name_pattern`: of a pattern that the check accepts, the rank and the dictionary number are written with it.
-- Assumes nothing.
use mathlib.Core.Path.{sym, ap, ◌∙◌}
use Rattle.std.proofs.lemmas.Result.{err_from_is_err_and}
use Rattle.words.specs.Meaning.{numbered_told}
use Rattle.translating_names.proofs.Names.{rank-refused, number-refused, names-room, named}
use Rattle.translating_names.proofs.name_pattern.Goals as goal

pub write_names-requires : goal.write_names-requires
write_names-requires c =
    names-room _ c.args.out.now _ _ (ap numbered_told (sym c.in_ok-r.was) ∙ c.rank.ensures) (ap numbered_told (sym c.in_ok-k.was) ∙ c.number.ensures) c.requires

pub returns-in_err-r-clause-told : goal.returns-in_err-r-clause-told
returns-in_err-r-clause-told c =
    let p = err_from_is_err_and c.from_residual.result c.from_residual.ensures.1 in
    rw (p.1, p.2) (rank-refused _ c.args.out.now _ _ (ap numbered_told (sym c.in_err-r.was) ∙ c.rank.ensures)).0

pub returns-in_err-r-clause-bytes : goal.returns-in_err-r-clause-bytes
returns-in_err-r-clause-bytes c = (rank-refused _ c.args.out.now _ _ (ap numbered_told (sym c.in_err-r.was) ∙ c.rank.ensures)).1

pub returns-in_err-k-clause-told : goal.returns-in_err-k-clause-told
returns-in_err-k-clause-told c =
    let p = err_from_is_err_and c.from_residual-in_err-k.result c.from_residual-in_err-k.ensures.1 in
    rw (p.1, p.2) (number-refused _ c.args.out.now _ _ (ap numbered_told (sym c.in_err-k.was) ∙ c.number.ensures)).0

pub returns-in_err-k-clause-bytes : goal.returns-in_err-k-clause-bytes
returns-in_err-k-clause-bytes c = (number-refused _ c.args.out.now _ _ (ap numbered_told (sym c.in_err-k.was) ∙ c.number.ensures)).1

pub returns-clause-told : goal.returns-clause-told
returns-clause-told c = (named _ c.args.out.now _ _ (ap numbered_told (sym c.in_ok-r.was) ∙ c.rank.ensures) (ap numbered_told (sym c.in_ok-k.was) ∙ c.number.ensures) _ _
    c.write_names.ensures.answer c.write_names.ensures.bytes).0

pub returns-clause-bytes : goal.returns-clause-bytes
returns-clause-bytes c = (named _ c.args.out.now _ _ (ap numbered_told (sym c.in_ok-r.was) ∙ c.rank.ensures) (ap numbered_told (sym c.in_ok-k.was) ∙ c.number.ensures) _ _
    c.write_names.ensures.answer c.write_names.ensures.bytes).1
