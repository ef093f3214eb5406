-- `pattern_carry::panels::first_wrong` gives the first jack at which two panels differ: those up to `at` are right, so those after it decide.
-- Assumes nothing.
use mathlib.Core.Path.{◌≡◌}
use Prim.Native.Nat.{suc, ◌-◌}
use lib.ListN.{take}
use Rattle.pattern_carry.specs.Panels.{wrong_from}
use Rattle.pattern_carry.proofs.panels.first_wrong.Given as goal

abbrev pub invariant-loop-at : goal.invariant-loop-at
invariant-loop-at l = wrong_from l.n 1 (take l.n l.p) (take l.n l.q) ≡ wrong_from (l.n - l.at) (suc l.at) (take l.n l.p) (take l.n l.q)
