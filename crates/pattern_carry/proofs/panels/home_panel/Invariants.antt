-- `pattern_carry::panels::home_panel` sets one jack more at each turn.
-- Assumes nothing.
use mathlib.Core.Path.{◌≡◌}
use Rattle.pattern_carry.proofs.Home.{home_to}
use Rattle.pattern_carry.proofs.panels.home_panel.Given as goal

abbrev pub invariant-loop-j : goal.invariant-loop-j
invariant-loop-j l = l.panel ≡ home_to l.n l.j
