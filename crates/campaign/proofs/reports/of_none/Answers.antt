-- `campaign::reports::of_none`: 14 for a kind above 2, else 12.
use mathlib.Core.Path.{refl}
use Rattle.words.specs.declared.Reason.TheVariants.{Kind, NoMark}
use Rattle.campaign.proofs.Asked.{kind-answer, none-answer}
use Rattle.campaign.proofs.Tells.{report-refused}
use Rattle.campaign.proofs.reports.of_none.Goals as goal
use Rattle.campaign.proofs.reports.of_none.Goals.{then-kind-gt-GAVE_UP, else-kind-gt-GAVE_UP}

pub returns : goal.returns
returns c =
    elim c.if-kind-gt-GAVE_UP.branch [
      | then-kind-gt-GAVE_UP w ↦
          λ o st. report-refused _ _ c.args.s _ Kind 14 (rw w.reason-is at c.refused.ensures) refl (kind-answer c.args.s c.requires o c.args.kind w.if-kind-gt-GAVE_UP.true)
      | else-kind-gt-GAVE_UP w ↦
          λ o st. report-refused _ _ c.args.s _ NoMark 12 (rw w.reason-is at c.refused.ensures) refl (none-answer c.args.s c.requires o c.args.kind w.if-kind-gt-GAVE_UP.false st)
    ]
