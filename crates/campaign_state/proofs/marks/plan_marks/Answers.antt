-- `campaign_state::marks::plan_marks`: the marks of all legs.
use mathlib.Core.Path.{◌∙◌}
use borrow.Author.Rules.{rules}
use Rattle.campaign_state.proofs.Places.{Sized, plan-ruled, all-marks}
use Rattle.campaign_state.proofs.marks.plan_marks.Goals as goal
use Rattle.campaign_state.proofs.marks.plan_marks.Goals.{Start}

sized : (c : Start) → Sized c.args.s
sized c = record { starts = search rules; runs = search rules; panel = search rules }

pub invariant_of-marks_before : goal.invariant_of-marks_before
invariant_of-marks_before c = record { ruled = plan-ruled c.args.s (sized (goal.at.invariant_of-marks_before c).Start) c.requires.places }

pub returns : goal.returns
returns c = c.marks_before.ensures ∙ all-marks c.args.s (sized (goal.at.returns c).Start) c.requires
