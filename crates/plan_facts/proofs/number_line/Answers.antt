-- `plan_facts::number_line` spells the key and the number, which has at most 20 digits, and the newline.
-- Assumes nothing.
use native.Mathlib.Omega.{arith}
use borrow.Author.Rules.{rules}
use Rattle.line_writer.proofs.Spelling.{spells-length}
use Rattle.text_numbers.proofs.Lengths.{digits-64}
use Rattle.plan_facts.proofs.number_line.Goals as goal

pub and_part-requires : goal.and_part-requires
and_part-requires c =
    omega (arith, spells-length _ c.args.key.now c.args.n c.begun.ensures, digits-64 c.args.n (search rules), c.requires)
