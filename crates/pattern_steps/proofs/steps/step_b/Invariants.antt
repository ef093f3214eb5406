-- `pattern_steps::steps::step_b` meets its contract: each turn writes one jack, from the last down. The loop's invariant: the jacks above `at` have the step's
-- ports, and those up to it still have the ports of the shorter pattern.
-- Assumes nothing.
use mathlib.Core.Path.{◌≡◌}
use Prim.Native.Nat.{suc}
use lib.ListN.{length, take}
use Rattle.listing_course.specs.InPlace.{Raising}
use Rattle.pattern_steps.proofs.steps.step_b.Given as goal

abbrev pub invariant-loop-at : goal.invariant-loop-at
invariant-loop-at l = (length l.out ≡ length l.initial.out) × Raising (suc (suc l.m)) l.i (take l.m l.initial.out) l.at l.out
