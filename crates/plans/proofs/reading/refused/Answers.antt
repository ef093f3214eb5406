-- `plans::reading::refused` tells the refusal, and every place is 0.
use mathlib.Core.Path.{refl}
use Rattle.plan_rules.specs.Places.{placed}
use Rattle.plans.proofs.reading.refused.Goals as goal

pub returns : goal.returns
unfolding placed
returns c = record { judged = refl; plan = refl }
