-- `orders::print_some`: the rehearsal runs on, with less to go where more is to come.
-- Assumes nothing.
use Rattle.printing.proofs.StandsFor.{printed-run, printed-less}
use Rattle.orders.proofs.print_some.Goals as goal
use Rattle.orders.proofs.print_some.Goals.{in-Lines+then-is_ok, in-Lines+else-is_ok, in-Ended, in-Refused}

pub returns : goal.returns
returns c =
    let F = c.fill-filled in
    elim c.match-filled.branch [
      | in-Lines+then-is_ok w ↦
          rw w.more-is (printed-run _ _ c.requires F.result F.ensures.told, printed-less _ _ c.requires F.result F.ensures.told _ w.in-Lines.is)
      | in-Lines+else-is_ok w ↦ rw w.more-is tt
      | in-Ended w ↦ rw w.more-is tt
      | in-Refused w ↦ rw w.more-is tt
    ]
