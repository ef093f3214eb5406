-- `line_writer::order_lines::begun` puts the key and the number after no text.
use native.Mathlib.Omega.{arith}
use Rattle.text_numbers.proofs.Lengths.{digits-64}
use borrow.Author.Rules.{rules}
use Rattle.line_writer.proofs.order_lines.begun.Goals as goal

pub and_both-requires : goal.and_both-requires
and_both-requires c = omega (arith, c.requires, digits-64 c.args.n (search rules))
