-- `benches_face::give_share`: the three numbers of a plan, zeros without one, or the refusal.
use mathlib.Core.Path.{ap, ◌∙◌}
use native.Mathlib.Omega.{arith}
use Rattle.std.proofs.Common.{Ok}
use Rattle.plan_rules.specs.Rules.{leg_is}
use Rattle.benches_calls.specs.Answers.{share_told}
use Rattle.benches_face.proofs.give_share.Goals as goal

pub overflow_add-leg : goal.overflow_add-leg
overflow_add-leg c =
    omega (arith, c.requires (leg_is c.in-Some.leg) (ap share_told (c.in-Ok.is ∙ ap Ok c.in-Some.is)))
