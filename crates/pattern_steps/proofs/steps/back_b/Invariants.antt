-- `pattern_steps::steps::back_b` meets its contract: each turn writes one jack, from the first on. The loop's invariant: the first `at` jacks have the ports of
-- the step back, and those after them still have their own.
-- Assumes nothing.
use mathlib.Core.Path.{◌≡◌}
use lib.ListN.{length, take}
use Rattle.listing.specs.Pattern.{entry}
use Rattle.listing.specs.Limits.{most_ports}
use Rattle.listing_course.specs.InPlace.{Lowering}
use Rattle.pattern_steps.proofs.steps.back_b.Given as goal

abbrev pub invariant-loop-at : goal.invariant-loop-at
invariant-loop-at l = (length l.p ≡ most_ports) × (l.i ≡ entry (take l.n l.initial.p) l.n) × Lowering l.n (take l.n l.initial.p) l.at l.p
