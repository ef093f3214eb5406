-- `plan_facts::cord_line` spells the jack first and then the port.
-- Assumes nothing.
use Rattle.plan_facts.specs.Facts.{cord_text}
use Rattle.plan_facts.proofs.cord_line.Goals as goal

pub returns : goal.returns
unfolding cord_text
returns c = c.pair_line.ensures
