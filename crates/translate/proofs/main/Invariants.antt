-- `translate::main`: in each turn no more lines go by than the buffer has bytes.
use mathlib.Core.Path.{◌≡◌}
use Prim.Native.Nat.{◌+◌, ◌*◌, ◌≤◌}
use lib.ListN.{length}
use Rattle.translating.specs.Lines.{SoFar}
use Rattle.translate.proofs.main.Given as goal

abbrev pub invariant-loop-turn : goal.invariant-loop-turn
invariant-loop-turn l = record {
  long : length l.text ≡ 4096;
  known : SoFar l.held.ports;
  held : l.held.len ≤ 4096;
  lines : l.held.line ≤ 1 + 4096 * l.turn;
}
