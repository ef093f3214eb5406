-- `campaign_state::judging::empty_from` looks at the places beyond the ports: those before `at` are 0, so those from there on decide.
use mathlib.Core.Path.{◌≡◌}
use lib.ListN.{drop}
use Rattle.campaign_state.specs.Fitness.{empty_from}
use Rattle.campaign_state.proofs.judging.empty_from.Given as goal

abbrev pub invariant-loop-at : goal.invariant-loop-at
invariant-loop-at l = empty_from l.n l.panel ≡ empty_from 0 (drop l.at l.panel)
