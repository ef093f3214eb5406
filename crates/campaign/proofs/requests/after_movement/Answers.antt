-- `campaign::requests::after_movement` carries the order out on the panel, and leaves all else.
use mathlib.Core.Path.{ap}
use Rattle.words.specs.declared.Line.TheVariants.{Movement}
use Rattle.words.proofs.Shape.{passes-fits}
use Rattle.promise.specs.Campaign as model
use Rattle.campaign.proofs.Moments.{made}
use Rattle.campaign.proofs.requests.after_movement.Goals as goal

pub after_order-requires : goal.after_order-requires
after_order-requires c =
    (c.requires.0, passes-fits c.args.s.plan.ports (Movement c.args.o) c.requires.1)

pub returns : goal.returns
unfolding model.after
returns c =
    ap (made c.args.s c.args.s.leg c.args.s.step c.args.s.covered c.args.s.opened c.args.s.errors c.args.s.standing c.args.s.ended c.args.s.seat) c.after_order.ensures
