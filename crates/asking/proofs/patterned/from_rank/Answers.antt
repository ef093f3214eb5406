-- `asking::patterned::from_rank`: the first places have the rank and the step, the others are 0.
-- Assumes nothing.
use Rattle.asking.proofs.Patterns.{from-rank-placed}
use Rattle.asking.proofs.patterned.from_rank.Goals as goal

pub returns : goal.returns
returns c = from-rank-placed _ _ _ c.one_step.ensures
