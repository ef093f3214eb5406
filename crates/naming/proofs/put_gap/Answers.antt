-- `naming::put_gap` puts what is spelled, which is the gap's line.
-- Assumes nothing.
use Rattle.line_writer.specs.Answers.{Spells}
use Rattle.naming.specs.Text.{gap_text}
use Rattle.naming.proofs.Gaps.{spells-gap}
use Rattle.line_putting.proofs.Putting.{spelled-asked, spelled-puts}
use Rattle.naming.proofs.put_gap.Goals as goal
use Rattle.naming.proofs.put_gap.Goals.{After-pair_line}

-- the gap's line is spelled
spelt : (c : After-pair_line) → Spells c.pair_line.result (gap_text (record { first = c.args.first; many = c.args.many }))
spelt c = spells-gap c.pair_line.result _ c.pair_line.ensures

pub put_spelled-requires : goal.put_spelled-requires
put_spelled-requires c =
    spelled-asked c.pair_line.result _ (spelt (goal.at.put_spelled-requires c).After-pair_line) c.args.at c.args.buf.now c.requires

pub returns : goal.returns
returns c =
    spelled-puts c.pair_line.result _ (spelt (goal.at.returns c).After-pair_line) c.args.at c.args.buf.now _ _ c.put_spelled.ensures
