-- `line_sentence::at_jack` puts the key and the number after no text.
-- Assumes nothing.
use native.Mathlib.Omega.{arith}
use borrow.Author.Rules.{rules}
use Rattle.text_numbers.proofs.Lengths.{digits-64}
use Rattle.line_refusal.specs.Words.{quoted}
use Rattle.line_writer.proofs.Spelling.{spells-first}
use Rattle.line_sentence.proofs.at_jack.Goals as goal

pub and_both-requires : goal.and_both-requires
and_both-requires c = omega (arith, c.new.ensures.len, digits-64 c.args.earlier (search rules))

pub returns : goal.returns
unfolding quoted
returns c = spells-first _ c.and_both.result _ c.new.ensures.len c.and_both.ensures
