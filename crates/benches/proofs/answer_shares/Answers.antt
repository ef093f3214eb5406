-- `benches::answer_shares`: what is told of bench 0 has good ports and good benches.
-- Assumes nothing.
use borrow.Author.Rules.{rules}
use Rattle.benches_laws.specs.Calls.{Good}
use Rattle.benches.proofs.Good.{shared-good}
use Rattle.benches.proofs.answer_shares.Goals as goal

pub print_answer-requires-clause-callable : goal.print_answer-requires-clause-callable
print_answer-requires-clause-callable c = let h : Good c.args.ports c.args.benches = shared-good _ _ _ _ c.in-Ok.ensures in λ b e. search rules
