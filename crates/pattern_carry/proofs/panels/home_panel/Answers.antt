-- `pattern_carry::panels::home_panel` sets one jack more at each turn.
-- Assumes nothing.
use mathlib.Core.Path.{◌∙◌}
use borrow.Author.Rules.{rules}
use Rattle.pattern_carry.proofs.Home.{home-none, home-more, home_all}
use Rattle.pattern_carry.proofs.panels.home_panel.Goals as goal

pub loop-j-init : goal.loop-j-init
loop-j-init c = home-none c.args.n

pub loop-j-preserved : goal.loop-j-preserved
loop-j-preserved c =
    home-more c.args.n c.loop-j.j _ c.loop-j.panel (search rules) c.loop-j.invariant c.home_port.ensures

pub returns : goal.returns
returns c = c.loop-j.invariant ∙ home_all c.args.n c.loop-j.j (search rules)
