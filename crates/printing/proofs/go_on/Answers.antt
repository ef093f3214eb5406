-- `printing::go_on`: a mark is reported as run.
use mathlib.Core.Path.{sym, ap, ◌∙◌}
use Rattle.campaign.specs.Calls.{line_is}
use Rattle.campaign.proofs.Tells.{left_so}
use Rattle.printing.specs.Printing.{as_run}
use Rattle.printing.proofs.go_on.Goals as goal

pub returns-in-Mark-clause-state : goal.returns-in-Mark-clause-state
returns-in-Mark-clause-state c =
    left_so _ _ c.report-reported.ensures.state ∙ ap (λ l. as_run (line_is l) c.args.campaign.state) (sym c.in-Mark.is)
