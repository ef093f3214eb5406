-- `benches_calls::adding::add_up` adds one bench more at each turn: none before it was refused, and the sums are those of the benches so far, so each stays within
-- all the marks, and errors within the most for each bench.
use Rattle.benches_laws.proofs.Sums.{AddedSo}
use Rattle.benches_calls.proofs.adding.add_up.Given as goal

abbrev pub invariant-loop-bench : goal.invariant-loop-bench
invariant-loop-bench l =
    AddedSo l.total l.benches l.counts l.covered l.opened l.errors l.bench
