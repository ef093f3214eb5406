-- `campaign_way::along::rank_along`: steps of a leg are steps round the circuit, backward or on.
use mathlib.Core.Path.{ap, ◌∙◌}
use Rattle.promise_arcs.specs.Circle.{onward, backward}
use Rattle.campaign_way.proofs.Walks.{along-on, along-back}
use Rattle.campaign_way.proofs.along.rank_along.Goals as goal

pub returns-then-back : goal.returns-then-back
returns-then-back c =
    c.backward.ensures ∙ ap (λ total. backward total c.args.start c.args.k) c.count_of-total.ensures
    ∙ along-back c.args.n c.requires.0 c.args.start c.args.back c.args.k c.requires.2 c.requires.3 c.if-back.true

pub returns-else-back : goal.returns-else-back
returns-else-back c =
    c.onward.ensures ∙ ap (λ total. onward total c.args.start c.args.k) c.count_of-total.ensures
    ∙ along-on c.args.n c.requires.0 c.args.start c.args.back c.args.k c.requires.2 c.requires.3 c.if-back.false
