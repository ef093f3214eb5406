-- `campaign::Campaign::begin`: the text's plan, and its first state.
use mathlib.Core.Path.{ap}
use Rattle.campaign.proofs.Home.{held-ports}
use Rattle.campaign.proofs.Campaign.begin.Goals as goal

pub first_state-requires : goal.first_state-requires
first_state-requires c =
    rw (ap (λ p. p.ports) c.read_plan-read.ensures.plan) (held-ports c.args.text.now)
