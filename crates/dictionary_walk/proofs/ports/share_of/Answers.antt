-- `dictionary_walk::ports::share_of` meets its contract: each test is one of the definition's.
-- Assumes nothing.
use borrow.Author.Tests.{eq-eqb, ne_eqb, lt-ltb, le-ltb}
use Rattle.listing_dictionary.specs.Number.{worth}
use Rattle.dictionary_walk.proofs.ports.share_of.Goals as goal
use Rattle.dictionary_walk.proofs.ports.share_of.Goals.{then-taken-via-then-taken, then-taken-via-else-taken+then-port-jack}

pub returns-then-taken : goal.returns-then-taken
unfolding worth
returns-then-taken c =
    elim c.then-taken.branch [
      | then-taken-via-then-taken w ↦ rw w.if-taken.true
      | then-taken-via-else-taken+then-port-jack w ↦ rw (w.if-taken.false, eq-eqb _ _ w.if-port-jack.true)
    ]

-- a port above the jack
pub returns-then-jack-port : goal.returns-then-jack-port
unfolding worth
returns-then-jack-port c = rw (c.if-taken.false, ne_eqb _ _ c.if-port-jack.false, lt-ltb _ _ c.if-jack-port.true)

pub returns-else-jack-port : goal.returns-else-jack-port
unfolding worth
returns-else-jack-port c = rw (c.if-taken.false, ne_eqb _ _ c.if-port-jack.false, le-ltb _ _ c.if-jack-port.false)
