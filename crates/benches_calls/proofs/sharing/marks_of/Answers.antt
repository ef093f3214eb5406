-- `benches_calls::sharing::marks_of` meets its contract: one more than the equal share exactly where the bench is among those that have it.
use mathlib.Core.Path.{sym}
use Rattle.benches_laws.proofs.Shares.{share-more, share-each}
use Rattle.benches_calls.proofs.sharing.marks_of.Goals as goal

pub returns-then-bench-total : goal.returns-then-bench-total
returns-then-bench-total c = sym (share-more _ _ _ c.if-bench-total.true)

pub returns-else-bench-total : goal.returns-else-bench-total
returns-else-bench-total c = sym (share-each _ _ _ c.if-bench-total.false)
