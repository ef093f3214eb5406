-- `orders::print_all`: the rehearsal runs on, and what goes on has less to go.
use Rattle.printing.specs.Rehearsals.{state_of}
use Rattle.printing.specs.Progress.{to_go}
use Rattle.printing.proofs.StandsFor.{Rehearsing}
use Rattle.orders.proofs.print_all.Given as goal

abbrev pub invariant-loop-next : goal.invariant-loop-next
invariant-loop-next l = Rehearsing (state_of l.rehearsal)

abbrev pub decreases-loop-next : goal.decreases-loop-next
decreases-loop-next l = to_go (state_of l.rehearsal)
