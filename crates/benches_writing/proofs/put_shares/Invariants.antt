-- `benches_writing::put_shares`: of the lines of all benches, those of the benches from a number on are still to be put.
use Prim.Native.Nat.{◌-◌}
use Rattle.line_putting.proofs.Putting.{Going}
use Rattle.benches_text.specs.Text.{bench_lines}
use Rattle.benches_writing.proofs.put_shares.Given as goal

abbrev pub invariant-loop-bench : goal.invariant-loop-bench
invariant-loop-bench l =
    Going 0 (bench_lines l.ports l.benches 0 l.benches) l.initial.buf l.at (bench_lines l.ports l.benches l.bench (l.benches - l.bench)) l.buf
