-- `translating_line::name_in`: the names of the pattern that was found are those that the line asks for.
-- Assumes nothing.
use mathlib.Core.Path.{sym, ap, ◌∙◌}
use Rattle.std.proofs.lemmas.Result.{err_from_is_err_and}
use Rattle.words.specs.Meaning.{outcome_told}
use Rattle.line_writer.specs.Answers.{written_told}
use Rattle.translating_line.proofs.Through.{not_found, unnamed, written}
use Rattle.translating_line.proofs.name_in.Goals as goal

pub returns-in_err-find_pattern-clause-told : goal.returns-in_err-find_pattern-clause-told
returns-in_err-find_pattern-clause-told c =
    let p = err_from_is_err_and c.from_residual.result c.from_residual.ensures.1 in
    rw (p.1, p.2) (not_found _ c.requires.0 c.requires.1 _ c.args.out.now _ _ (ap outcome_told (sym c.in_err-find_pattern.was) ∙ c.find_pattern.ensures.told)).0

pub returns-in_err-find_pattern-clause-bytes : goal.returns-in_err-find_pattern-clause-bytes
returns-in_err-find_pattern-clause-bytes c = (not_found _ c.requires.0 c.requires.1 _ c.args.out.now _ _ (ap outcome_told (sym c.in_err-find_pattern.was) ∙ c.find_pattern.ensures.told)).1

pub returns-in_err-len-clause-told : goal.returns-in_err-len-clause-told
returns-in_err-len-clause-told c =
    let p = err_from_is_err_and c.from_residual-in_err-len.result c.from_residual-in_err-len.ensures.1 in
    rw (p.1, p.2) (unnamed _ c.requires.0 c.requires.1 _ c.args.p.now _ (ap outcome_told (sym c.in_ok-find_pattern.was) ∙ c.find_pattern.ensures.told) c.find_pattern.ensures.bytes
    c.args.out.now _ _ _ (ap written_told (sym c.in_err-len.was) ∙ c.name_pattern.ensures.told) c.name_pattern.ensures.bytes).0

pub returns-in_err-len-clause-bytes : goal.returns-in_err-len-clause-bytes
returns-in_err-len-clause-bytes c = (unnamed _ c.requires.0 c.requires.1 _ c.args.p.now _ (ap outcome_told (sym c.in_ok-find_pattern.was) ∙ c.find_pattern.ensures.told) c.find_pattern.ensures.bytes
    c.args.out.now _ _ _ (ap written_told (sym c.in_err-len.was) ∙ c.name_pattern.ensures.told) c.name_pattern.ensures.bytes).1

pub returns-clause-told : goal.returns-clause-told
returns-clause-told c = (written _ c.requires.0 c.requires.1 _ c.args.p.now _ (ap outcome_told (sym c.in_ok-find_pattern.was) ∙ c.find_pattern.ensures.told) c.find_pattern.ensures.bytes
    c.args.out.now _ c.find_pattern.auto.p _ _ (ap written_told (sym c.in_ok-len.was) ∙ c.name_pattern.ensures.told) c.name_pattern.ensures.bytes).0

pub returns-clause-bytes : goal.returns-clause-bytes
returns-clause-bytes c = (written _ c.requires.0 c.requires.1 _ c.args.p.now _ (ap outcome_told (sym c.in_ok-find_pattern.was) ∙ c.find_pattern.ensures.told) c.find_pattern.ensures.bytes
    c.args.out.now _ c.find_pattern.auto.p _ _ (ap written_told (sym c.in_ok-len.was) ∙ c.name_pattern.ensures.told) c.name_pattern.ensures.bytes).1
