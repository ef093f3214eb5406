-- `campaign_way::coming::on_the_way` goes back from the end of the way: nothing is to come there, and before each order that order is.
use mathlib.Core.Path.{ap, ◌∙◌, sym}
use mathlib.Core.List.{[]}
use borrow.Author.Rules.{rules}
use lib.ListN.{take}
use Rattle.listing.specs.Orders.{orders}
use Rattle.words.specs.Meaning.{move_of}
use Rattle.promise.specs.Campaign.{rest}
use Rattle.campaign_way.specs.Coming.{next_of}
use Rattle.campaign_way.proofs.Orders.{carried-front, way-order}
use Rattle.campaign_way.proofs.coming.on_the_way.Goals as goal

pub returns-in-One : goal.returns-in-One
returns-in-One c =
    way-order (take c.args.n c.args.p) _ _ [] (take c.args.n c.args.q) _ _ (carried-front c.args.n c.args.p _ _ (search rules) c.after_order.ensures) c.arrived-in-One.ensures c.or_next.ensures
    ∙ ap (λ v. next_of (rest (take c.args.n c.args.p) (orders (move_of v)) (take c.args.n c.args.q))) (sym c.in-One.is)

pub returns-in-Two : goal.returns-in-Two
returns-in-Two c =
    way-order (take c.args.n c.args.p) _ _ _ (take c.args.n c.args.q) _ _ (carried-front c.args.n c.args.p _ _ (search rules) c.after_order-between.ensures)
    (way-order _ _ _ [] (take c.args.n c.args.q) _ _ (carried-front c.args.n _ _ _ (search rules) c.after_order-in-Two.ensures) c.arrived-in-Two.ensures c.or_next-found.ensures)
    c.or_next-in-Two.ensures
    ∙ ap (λ v. next_of (rest (take c.args.n c.args.p) (orders (move_of v)) (take c.args.n c.args.q))) (sym c.in-Two.is)
