-- `patterns::ranking::listed` tells 1, then 6, in this order.
-- Assumes nothing.
use mathlib.Core.Path.{sym, ap, ◌∙◌}
use native.Mathlib.Omega.{arith}
use Rattle.words.specs.Meaning.{refusal_of}
use Rattle.pattern_check.proofs.Calls.{size-accepted, size-refused}
use Rattle.pattern_check.proofs.Passed.{passed-on}
use Rattle.patterns.specs.Calls.{listed_of}
use Rattle.patterns.proofs.Calls.{listed, unlisted}
use Rattle.patterns.proofs.ranking.listed.Goals as goal

pub returns-in_err-sized : goal.returns-in_err-sized
unfolding listed_of
returns-in_err-sized c = passed-on _ _ _ c.from_residual.ensures.1 ∙ size-refused _ _ _ _ _ c.in_err-sized.ensures

pub overflow_cast-ports : goal.overflow_cast-ports
overflow_cast-ports c = omega (arith, size-accepted _ _ c.in_ok-sized.ensures)

pub count_of-requires : goal.count_of-requires
count_of-requires c = (size-accepted _ _ c.in_ok-sized.ensures).1

pub returns-then-rank-count_of : goal.returns-then-rank-count_of
unfolding listed_of
returns-then-rank-count_of c = sym (listed _ _ _ _ c.in_ok-sized.ensures c.count_of.ensures (omega (arith, c.if-rank-count_of.true)))

pub returns-else-rank-count_of : goal.returns-else-rank-count_of
unfolding listed_of
returns-else-rank-count_of c =
    ap refusal_of c.nowhere.ensures ∙ sym (unlisted _ _ _ _ c.in_ok-sized.ensures c.count_of.ensures (omega (arith, c.if-rank-count_of.false)))
