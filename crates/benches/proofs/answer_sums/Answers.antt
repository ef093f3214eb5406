-- `benches::answer_sums`: what is told of bench 0 has good ports.
-- Assumes nothing.
use Rattle.benches.proofs.Good.{shared-good}
use Rattle.benches.proofs.answer_sums.Goals as goal

pub answer_text-requires : goal.answer_text-requires
answer_text-requires c = (shared-good _ _ _ _ c.in-Ok.ensures).0.1
