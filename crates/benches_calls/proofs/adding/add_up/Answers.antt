-- `benches_calls::adding::add_up` adds one bench more at each turn: none before it was refused, and the sums are those of the benches so far, so each stays within
-- all the marks, and errors within the most for each bench.
use mathlib.Core.Path.{refl, sym, ◌∙◌, ap}
use mathlib.Core.Bool.{not}
use Prim.Native.Nat.{◌+◌, ◌*◌, ◌≤◌}
use native.Mathlib.Omega.{arith}
use lib.ListN.{get_or}
use borrow.Author.Rules.{rules}
use borrow.Author.Tests.{not-true, not-false}
use Rattle.promise.specs.Derangements.{most_errors}
use Rattle.benches_laws.proofs.Sums.{added_none, judged-so, added_more, added-small}
use Rattle.benches_laws.proofs.Told.{counts-refused, all-added}
use Rattle.benches_calls.proofs.adding.add_up.Goals as goal
use Rattle.benches_calls.proofs.adding.add_up.Goals.{Else-not-counts_fit}

-- or they can: the sums stay small
small : (c : Else-not-counts_fit)
    → (c.loop-bench.covered + get_or c.args.counts.now (3 * c.loop-bench.bench) 0 + (c.loop-bench.opened + get_or c.args.counts.now ((3 * c.loop-bench.bench) + 1) 0) ≤ c.args.total)
    × (c.loop-bench.errors + get_or c.args.counts.now ((3 * c.loop-bench.bench) + 2) 0 ≤ most_errors * (c.loop-bench.bench + 1))
small c =
    added-small _ _ _ _ _ _ _ _ _ _ c.loop-bench.invariant refl c.marks_of.ensures c.counts_fit.ensures
    (not-false _ (ap not c.if-not-counts_fit.false)) (search rules)

pub loop-bench-init : goal.loop-bench-init
loop-bench-init c = added_none _ _ _

-- the counts of this bench cannot be
pub returns-then-not-counts_fit : goal.returns-then-not-counts_fit
returns-then-not-counts_fit c =
    counts-refused _ _ _ _ (search rules) c.loop-bench.invariant.none_yet
    (sym (judged-so _ _ _ _ _ _ _ _ _ _ c.loop-bench.invariant refl c.marks_of.ensures c.counts_fit.ensures)
    ∙ not-true _ (ap not c.if-not-counts_fit.true))

pub overflow_add-covered : goal.overflow_add-covered
overflow_add-covered c = omega (arith, (small c).0, c.requires.0)

pub overflow_add-opened : goal.overflow_add-opened
overflow_add-opened c = omega (arith, (small c).0, c.requires.0)

pub overflow_add-errors : goal.overflow_add-errors
overflow_add-errors c = omega (arith, (small c).1, c.requires.2)

pub loop-bench-preserved : goal.loop-bench-preserved
loop-bench-preserved c =
    added_more _ _ _ _ _ _ _ _ _ _ c.loop-bench.invariant refl c.marks_of.ensures c.counts_fit.ensures (not-false _ (ap not c.if-not-counts_fit.false))

pub returns : goal.returns
returns c = all-added _ _ _ _ _ _ _ c.loop-bench.invariant (omega arith)
