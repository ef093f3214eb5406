-- `translating_names::writing::put_rest`: of the entries after the first, those from entry k on are still to be put, each after a comma.
-- Assumes nothing.
use borrow.Author.Rules.{rules}
use Rattle.translating_names.proofs.Entries.{entry-room, entry-on, entries_over}
use Rattle.translating_names.proofs.writing.put_rest.Goals as goal

pub put_number-at-requires : goal.put_number-at-requires
put_number-at-requires c =
    (search rules, entry-room _ _ _ c.loop-k.at c.loop-k.k c.loop-k.buf c.loop-k.invariant (search rules))

pub loop-k-preserved : goal.loop-k-preserved
loop-k-preserved c =
    entry-on _ _ _ c.loop-k.at c.loop-k.k c.loop-k.buf c.loop-k.invariant (search rules) _ _ c.put_number-at.ensures

pub returns : goal.returns
returns c = entries_over _ _ _ c.loop-k.at c.loop-k.k c.loop-k.buf c.loop-k.invariant (search rules)
