-- `campaign_way::coming::arrived`: nothing is to come where no jack is wrong, and any other panel is astray.
use mathlib.Core.Path.{sym}
use borrow.Author.Rules.{rules}
use Rattle.campaign_way.proofs.Differ.{front_same, front-other}
use Rattle.campaign_way.proofs.Orders.{rest-there, rest-elsewhere}
use Rattle.campaign_way.proofs.coming.arrived.Goals as goal

pub returns-then-first_wrong-eq0 : goal.returns-then-first_wrong-eq0
returns-then-first_wrong-eq0 c =
    sym (rest-there _ _ (front_same c.args.n c.args.p c.args.q (search rules) (search rules) _ c.first_wrong.ensures c.if-first_wrong-eq0.true))

pub returns-else-first_wrong-eq0 : goal.returns-else-first_wrong-eq0
returns-else-first_wrong-eq0 c =
    sym (rest-elsewhere _ _ (front-other c.args.n c.args.p c.args.q (search rules) (search rules) _ c.first_wrong.ensures c.if-first_wrong-eq0.false))
