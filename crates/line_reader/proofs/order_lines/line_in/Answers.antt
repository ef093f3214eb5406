-- `line_reader::order_lines::line_in` judges the numbers after the key by the kind that the key says.
use mathlib.Core.Path.{◌≡◌, sym, ap, ◌∙◌}
use native.Mathlib.Omega.{arith}
use Rattle.std.proofs.lemmas.Result.{err_from_is_err_and}
use Rattle.listing.specs.Limits.{most_ports, largest64}
use Rattle.words.specs.declared.Reason.TheVariants.{Number}
use Rattle.line_format.specs.Reading.{line_in}
use Rattle.line_reader.specs.Answers.{keyed_told}
use Rattle.line_reader.specs.declared.order_lines.Numbers.{Numbers}
use Rattle.line_reader.proofs.Reader.{judged_by, numbers-judged}
use Rattle.line_reader.proofs.order_lines.line_in.Goals as goal
use Rattle.line_reader.proofs.order_lines.line_in.Goals.{After-numbers_in}
use Rattle.std.specs.declared.option.Option.{Option}

-- what was read of them decides
decides : (c : After-numbers_in) {r : Option Numbers} → c.numbers_in.result ≡ r
    → judged_by largest64 most_ports c.in_ok-kind.kind r ≡ line_in largest64 most_ports c.args.t.now
decides c e =
    let key = sym (ap (keyed_told largest64 most_ports _) c.in_ok-kind.ensures.ok_part) ∙ c.kind_of.ensures.is in
    sym (ap (judged_by largest64 most_ports c.in_ok-kind.kind) e)
    ∙ numbers-judged largest64 most_ports c.in_ok-kind.kind _ c.in_ok-kind.at _ c.numbers_in.result c.commas_of.ensures key c.numbers_in.ensures

pub returns-in_err-x : goal.returns-in_err-x
returns-in_err-x c =
    let p = err_from_is_err_and c.from_residual-in_err-x.result c.from_residual-in_err-x.ensures.1 in
    let why : c.in_err-x.field-0.0 ≡ Number = grind (arith, c.in_err-x.ensures.value, c.in_err-x.ensures.ok_part) in
    rw (p.1, p.2, why) (decides (goal.at.returns-in_err-x c).After-numbers_in c.in_err-x.ensures.ok_part)

pub returns : goal.returns
returns c = c.line_of.ensures ∙ decides (goal.at.returns c).After-numbers_in c.in_ok-x.ensures.ok_part
