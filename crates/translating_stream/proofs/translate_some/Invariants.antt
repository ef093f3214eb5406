-- `translating_stream::translate_some`: the lines before `used` are taken, and their texts stand before `len` in the buffer. Each turn passes a newline.
-- Assumes nothing.
use mathlib.Core.Path.{◌≡◌}
use Prim.Native.Nat.{◌-◌}
use lib.ListN.{length}
use Rattle.translating_stream.specs.Parts.{Taken}
use Rattle.translating_stream.proofs.translate_some.Given as goal

abbrev pub invariant-loop-after : goal.invariant-loop-after
invariant-loop-after l = (length l.out ≡ length l.initial.out) × Taken l.ports l.line l.text l.initial.out l.out l.n l.row l.used l.len

abbrev pub decreases-loop-after : goal.decreases-loop-after
decreases-loop-after l = length l.text - l.used
