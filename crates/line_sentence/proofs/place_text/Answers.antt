-- `line_sentence::place_text` spells the name, the number, and a colon and a blank after it.
-- Assumes nothing.
use native.Mathlib.Omega.{arith}
use borrow.Author.Rules.{rules}
use Rattle.text_numbers.proofs.Lengths.{digits-64}
use Rattle.line_refusal.specs.Words.{quoted}
use Rattle.line_writer.proofs.Spelling.{spells-length, spells-more}
use Rattle.line_sentence.proofs.place_text.Goals as goal

pub and_part-requires : goal.and_part-requires
and_part-requires c =
    omega (arith, spells-length _ c.args.name.now c.args.place c.begun.ensures, digits-64 c.args.place (search rules))

pub returns : goal.returns
unfolding quoted
returns c = spells-more _ c.and_part.result _ (quoted ": ") c.begun.ensures c.and_part.ensures
