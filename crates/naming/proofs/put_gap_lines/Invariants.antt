-- `naming::put_gap_lines`: of the lines of all gaps, those of the gaps from number k on are still to be put.
-- Assumes nothing.
use Prim.Native.Nat.{◌-◌, ◌*◌}
use Rattle.naming.specs.Text.{gaps_text}
use Rattle.naming.specs.Arcs.{arcs_in}
use Rattle.line_putting.proofs.Putting.{Going}
use Rattle.naming.proofs.Gaps.{lines_from}
use Rattle.naming.proofs.put_gap_lines.Given as goal

abbrev pub invariant-loop-k : goal.invariant-loop-k
invariant-loop-k l = Going l.from (gaps_text (arcs_in l.many l.gaps)) l.initial.buf l.at (lines_from l.gaps (2 * l.k) (l.many - l.k)) l.buf
