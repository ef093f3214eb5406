-- `show::put_mark`: the ports of a plan within the rules are 2 to 20.
-- Assumes nothing.
use borrow.Author.Rules.{rules}
use Rattle.showing.proofs.Ruled.{ports-ruled}
use Rattle.show.proofs.put_mark.Goals as goal

pub put_ports-requires : goal.put_ports-requires
put_ports-requires c = ports-ruled c.args.ruled.plan (search rules) (search rules) c.args.ruled.ruled

pub put_cords-requires : goal.put_cords-requires
put_cords-requires c = (ports-ruled c.args.ruled.plan (search rules) (search rules) c.args.ruled.ruled).1
