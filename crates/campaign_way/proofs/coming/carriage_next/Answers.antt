-- `campaign_way::coming::carriage_next`: the first wrong jack swaps with the jack that holds the port wanted there.
use mathlib.Core.Path.{◌∙◌}
use Rattle.pattern_carry.proofs.Differ.{wrong-among}
use Rattle.campaign_way.proofs.Orders.{carriage-done, carriage-fetched}
use Rattle.campaign_way.proofs.coming.carriage_next.Goals as goal

pub returns-then-j-eq0 : goal.returns-then-j-eq0
returns-then-j-eq0 c =
    carriage-done c.args.n _ _ _ c.requires.2.long c.first_wrong-j.ensures c.if-j-eq0.true

pub port_at-requires : goal.port_at-requires
port_at-requires c =
    (c.requires.0, rw c.first_wrong-j.ensures (wrong-among c.args.n _ _ (λ z. c.if-j-eq0.false (c.first_wrong-j.ensures ∙ z))))

pub returns : goal.returns
returns c =
    carriage-fetched c.args.n _ _ _ _ _ c.requires.1 c.requires.2 c.first_wrong-j.ensures c.if-j-eq0.false c.port_at.ensures c.holder-held.ensures
