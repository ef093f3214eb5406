-- `line_reader::order_lines::newline_from` looks for the newline from the place on; past the end there is none.
use native.Mathlib.Omega.{arith}
use Rattle.text_keys.specs.Parts.{newline}
use Rattle.line_reader.proofs.Reader.{none-past}
use Rattle.line_reader.proofs.order_lines.newline_from.Goals as goal

pub returns-then-text-place : goal.returns-then-text-place
returns-then-text-place c = none-past newline c.args.text.now c.args.place (omega arith)
