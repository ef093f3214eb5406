-- `pattern_carry::panels::home_port`: the last jack holds port 1, every other the port after its own number.
-- Assumes nothing.
use mathlib.Core.Path.{sym, ◌∙◌}
use native.Mathlib.Numerals.{add-one}
use Rattle.listing.proofs.Numbers.{is_same, is-other}
use Rattle.pattern_carry.proofs.panels.home_port.Goals as goal

pub returns-then-j-n : goal.returns-then-j-n
returns-then-j-n c = sym (is_same c.args.j c.args.n 1 _ c.if-j-n.true)

pub returns-else-j-n : goal.returns-else-j-n
returns-else-j-n c = add-one c.args.j ∙ sym (is-other c.args.j c.args.n 1 _ c.if-j-n.false)
