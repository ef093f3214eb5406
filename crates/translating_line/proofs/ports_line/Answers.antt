-- `translating_line::ports_line` takes 2 to 20 ports.
-- Assumes nothing.
use mathlib.Core.Path.{◌≡◌, sym, ap, ◌∙◌}
use mathlib.Core.Option.{some}
use native.Mathlib.Omega.{arith}
use Rattle.std.proofs.Common.{Some, None}
use Rattle.std.proofs.lemmas.Result.{err_from_is_err_and}
use Rattle.listing.specs.Limits.{largest64}
use Rattle.words.specs.Meaning.{refusal_of}
use Rattle.text_numbers.specs.Decimal.{number_up_to}
use Rattle.text_numbers.specs.Answers.{read_is}
use Rattle.translating_line.specs.Answers.{went_told}
use Rattle.translating_line.proofs.Ports.{no-ports, few-ports, many-ports, ports-said}
use Rattle.translating_line.proofs.ports_line.Goals as goal
use Rattle.translating_line.proofs.ports_line.Goals.{In_ok-n, then-n-via-then-n, then-n-via-else-n+then-n-2}

-- the number that was read
read : (c : In_ok-n) → some c.in_ok-n.n ≡ number_up_to largest64 c.args.t.now
read c =
    let e : c.read_number.result ≡ Some c.in_ok-n.n = grind (arith, c.ok_or.ensures.value, c.in_ok-n.was) in
    sym (ap read_is e) ∙ c.read_number.ensures

pub returns-in_err-n : goal.returns-in_err-n
returns-in_err-n c =
    let p = err_from_is_err_and c.from_residual.result c.from_residual.ensures.1 in
    let e : c.read_number.result ≡ None = grind (arith, c.ok_or.ensures.value, c.in_err-n.was) in
    let f : c.in_err-n.field-0.0 ≡ c.nowhere.result = grind (arith, c.ok_or.ensures.value, c.in_err-n.was) in
    rw (p.1, p.2) (ap refusal_of (f ∙ c.nowhere.ensures) ∙ ap went_told (no-ports _ (sym (ap read_is e) ∙ c.read_number.ensures)))

pub returns-then-n : goal.returns-then-n
returns-then-n c =
    let n = read (goal.at.returns-then-n c).In_ok-n in
    ap refusal_of c.nowhere-then-n.ensures
    ∙ ap went_told
    (elim c.then-n.branch [
      | then-n-via-then-n w ↦ few-ports _ _ n w.if-n.true
      | then-n-via-else-n+then-n-2 w ↦ many-ports _ _ n w.if-n.false w.if-n-2.true
    ])

pub returns : goal.returns
returns c = ap went_told (ports-said _ _ (read (goal.at.returns c).In_ok-n) c.if-n.false c.if-n-2.false)
