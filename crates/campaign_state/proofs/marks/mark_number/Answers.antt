-- `campaign_state::marks::mark_number`: the marks of the legs before, and the step.
use mathlib.Core.Path.{ap, ◌∙◌}
use Prim.Native.Nat.{◌+◌}
use native.Mathlib.Omega.{arith}
use borrow.Author.Rules.{rules}
use Rattle.campaign_state.proofs.Places.{Sized, plan-ruled, leg-below, number-room, number-so}
use Rattle.campaign_state.proofs.marks.mark_number.Goals as goal
use Rattle.campaign_state.proofs.marks.mark_number.Goals.{Start}

sized : (c : Start) → Sized c.args.s
sized c = record { starts = search rules; runs = search rules; panel = search rules }

pub invariant_of-marks_before : goal.invariant_of-marks_before
invariant_of-marks_before c = record { ruled = plan-ruled c.args.s (sized (goal.at.invariant_of-marks_before c).Start) c.requires.places }

pub marks_before-requires : goal.marks_before-requires
marks_before-requires c = omega (arith, leg-below c.args.s (sized (goal.at.marks_before-requires c).Start) c.requires)

pub overflow_add-result : goal.overflow_add-result
overflow_add-result c =
    omega (arith, c.marks_before.ensures, number-room c.args.s (sized (goal.at.overflow_add-result c).Start) c.requires)

pub returns : goal.returns
returns c =
    ap (λ m. m + c.args.s.step) c.marks_before.ensures ∙ number-so c.args.s (sized (goal.at.returns c).Start) c.requires
