-- `campaign::requests::after_line`: an order moves the panel, a seat leaves the next one, a mark stands, the end leaves the state.
use mathlib.Core.Path.{sym, ap, ◌∙◌}
use Rattle.promise.specs.Campaign.{request}
use Rattle.campaign.specs.Calls.{after, line_is}
use Rattle.campaign.proofs.Tells.{line-leaves-mark, line-leaves-end}
use Rattle.campaign.proofs.requests.after_line.Goals as goal

pub returns-in-Mark : goal.returns-in-Mark
returns-in-Mark c =
    line-leaves-mark _ _ c.args.s ∙ ap (λ l. after (request 0) (line_is l) c.args.s) (sym c.in-Mark.is)

pub returns-in-End : goal.returns-in-End
returns-in-End c =
    line-leaves-end _ c.args.s ∙ ap (λ l. after (request 0) (line_is l) c.args.s) (sym c.in-End.is)
