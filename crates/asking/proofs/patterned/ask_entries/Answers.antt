-- `asking::patterned::ask_entries` reads the entries, asks for their rank and passes the refusals of both on.
-- Assumes nothing.
use mathlib.Core.Path.{refl, sym, ap, ◌∙◌}
use Rattle.std.proofs.lemmas.Result.{err_from_is_err_and}
use Rattle.words.specs.Meaning.{numbered_told}
use Rattle.plan_rules.specs.Planned.{device}
use Rattle.plan_rules.specs.Rules.{plan_ruled}
use Rattle.asking.proofs.Patterns.{not-entries, unranked, ranked, ranked-ruled}
use Rattle.asking.proofs.patterned.ask_entries.Goals as goal

pub returns-in_err-len : goal.returns-in_err-len
returns-in_err-len c =
    let p = err_from_is_err_and c.from_residual.result c.from_residual.ensures.1 in
    rw (p.1, p.2) (not-entries _ c.in_err-len.ensures)

pub returns-in_err-r : goal.returns-in_err-r
returns-in_err-r c =
    let p = err_from_is_err_and c.from_residual-in_err-r.result c.from_residual-in_err-r.ensures.1 in
    rw (p.1, p.2)
    (unranked _ _ c.in_ok-len.ensures _ _ (sym (ap numbered_told (c.in_err-r.was)) ∙ c.rank.ensures))

pub invariant_of-result : goal.invariant_of-result
invariant_of-result c = record {
  ruled =
      ap (plan_ruled device) c.from_rank-plan.ensures
      ∙ ranked-ruled _ _ c.in_ok-len.ensures _ (sym (ap numbered_told (c.in_ok-r.was)) ∙ c.rank.ensures);
}

pub returns : goal.returns
returns c = record {
  asked = _;
  is = sym (ranked _ _ c.in_ok-len.ensures _ (sym (ap numbered_told (c.in_ok-r.was)) ∙ c.rank.ensures));
  plan = c.from_rank-plan.ensures;
  whole = refl;
  mark = refl;
}
