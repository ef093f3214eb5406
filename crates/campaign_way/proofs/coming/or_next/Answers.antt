-- `campaign_way::coming::or_next`: what was found further on stands; where nothing was, the panel decides.
use mathlib.Core.Path.{ap, ◌∙◌}
use borrow.Author.Rules.{rules}
use Rattle.campaign_way.specs.Coming.{coming_is}
use Rattle.campaign_way.proofs.Differ.{front_same, front-other}
use Rattle.campaign_way.proofs.Orders.{order-next, order-gone}
use Rattle.campaign_way.proofs.coming.or_next.Goals as goal

pub returns-in-Astray : goal.returns-in-Astray
returns-in-Astray c =
    order-next _ _ _ (ap coming_is c.in-Astray.is)
    (front_same c.args.n c.args.p c.args.q (search rules) (search rules) _ c.first_wrong.ensures c.if-first_wrong-eq0.true)

pub returns-in_default : goal.returns-in_default
returns-in_default c =
    ap coming_is c.in-Astray.is
    ∙ order-gone _ _ _ (ap coming_is c.in-Astray.is)
    (front-other c.args.n c.args.p c.args.q (search rules) (search rules) _ c.first_wrong.ensures c.if-first_wrong-eq0.false)
