-- `campaign_state::judging::empty_from` looks at the places beyond the ports: those before `at` are 0, so those from there on decide.
use mathlib.Core.Path.{sym, ◌∙◌}
use borrow.Author.Rules.{rules}
use Rattle.campaign_state.proofs.Places.{empty-from, empty-on, empty-not, empty-end}
use Rattle.campaign_state.proofs.judging.empty_from.Goals as goal

pub loop-at-init : goal.loop-at-init
loop-at-init c = empty-from c.args.n c.args.panel

pub returns-then-panel-at-ne0 : goal.returns-then-panel-at-ne0
returns-then-panel-at-ne0 c = sym (c.loop-at.invariant ∙ empty-not c.args.panel c.loop-at.at (search rules) c.if-panel-at-ne0.true)

pub loop-at-preserved : goal.loop-at-preserved
loop-at-preserved c = c.loop-at.invariant ∙ empty-on c.args.panel c.loop-at.at (search rules) c.if-panel-at-ne0.false

pub returns : goal.returns
returns c = sym (c.loop-at.invariant ∙ empty-end c.args.panel c.loop-at.at (search rules))
