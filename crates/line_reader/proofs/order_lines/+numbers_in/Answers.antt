-- `line_reader::order_lines::numbers_in` reads the first number, and then the text after its comma as the others. The commas fall at each call.
-- Assumes nothing.
use mathlib.Core.Path.{ap, ◌∙◌}
use Prim.Native.Nat.{◌-◌}
use native.Mathlib.Omega.{arith}
use Rattle.listing.specs.Limits.{largest64}
use Rattle.line_reader.specs.Answers.{listed_is}
use Rattle.line_reader.proofs.Reader.{no-first, alone-numbers, after_first}
use Rattle.line_reader.proofs.order_lines.+numbers_in.Goals as goal

pub returns-then-commas-eq0 : goal.returns-then-commas-eq0
returns-then-commas-eq0 t c =
    ap (listed_is c.args.commas) c.alone.ensures
    ∙ alone-numbers largest64 c.args.commas c.args.t.now c.read_number.result c.if-commas-eq0.true c.read_number.ensures

pub returns-in_err-n : goal.returns-in_err-n
returns-in_err-n t c =
    rw c.from_residual.ensures
    (no-first largest64 c.args.commas (c.args.commas - 1) c.args.t.now (omega arith) c.in_err-n.ensures.is)

pub returns : goal.returns
returns t c =
    ap (listed_is c.args.commas) c.preceded.ensures
    ∙ after_first largest64 c.args.commas (c.args.commas - 1) c.args.t.now c.in_ok-n.n c.in_ok-n.at c.numbers_in.result (omega arith) (omega arith) c.in_ok-n.ensures.is c.numbers_in.ensures
