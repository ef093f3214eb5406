-- `pattern_check::checking::fault` gives the first fault: the jacks before `at` have none, and of those before jack at + 1 none before k holds its port.
-- Each way out of the loops is one case of `fault_at`.
use mathlib.Core.Path.{◌≡◌}
use Prim.Native.Nat.{suc, ◌-◌}
use lib.ListN.{length, get_or}
use Rattle.pattern_check.specs.Faults.{seek, earlier, fault_of, fault_from}
use Rattle.std.specs.declared.result.Result.TheVariants.{Ok}
use Rattle.pattern_check.proofs.checking.fault.Given as goal

-- the jacks before k do not hold the port of jack at + 1, so those from k on decide
abbrev pub invariant-loop-k : goal.invariant-loop-k
invariant-loop-k l = (l.found ≡ l.initial.found) × (earlier l.p (suc l.at) ≡ seek l.p (get_or l.p l.at 0) (suc l.k) (l.at - l.k))

-- the jacks before `at` have no fault, so those from there on decide
abbrev pub invariant-jacks : goal.invariant-jacks
invariant-jacks l = (l.found ≡ Ok tt) × (fault_of l.pattern l.p ≡ fault_from l.pattern (length l.p) l.p (suc l.at) (length l.p - l.at))
