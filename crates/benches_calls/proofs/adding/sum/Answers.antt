-- `benches_calls::adding::sum` tells what `sum_of` says: 1, 21 for the benches and for the numbers, and then 27 or the sums. All the patterns fit 64 bits.
use mathlib.Core.Path.{◌≡◌, sym, ap, ◌∙◌}
use mathlib.Core.Bool.{true, not}
use Prim.Native.Nat.{◌<◌}
use native.Mathlib.Omega.{arith}
use borrow.Author.Tests.{not-true, not-false}
use Rattle.listing.specs.Limits.{most_ports, largest64}
use Rattle.listing.proofs.Limits.{count_most}
use Rattle.words.specs.Shape.{one_of}
use Rattle.words.proofs.Shape.{one-of}
use Rattle.pattern_check.specs.Calls.{in_size}
use Rattle.pattern_check.proofs.Calls.{size-within}
use Rattle.benches_laws.specs.Calls.{most_benches, added_up, sum_of}
use Rattle.benches_laws.proofs.Told.{ports-refused, benches-refused, numbers-refused, sum_told}
use Rattle.benches_calls.proofs.adding.sum.Goals as goal
use Rattle.benches_calls.proofs.adding.sum.Goals.{After-count_of, Else-not-some_benches}

-- the ports are good, and so are the benches
module _ (c : Else-not-some_benches) where
  ports : in_size most_ports c.args.ports ≡ true
  ports = sym c.in_size.ensures ∙ not-false _ (ap not c.if-not-in_size.false)

  benches : one_of most_benches c.args.benches ≡ true
  benches = sym c.some_benches.ensures ∙ not-false _ (ap not c.if-not-some_benches.false)

-- there are fewer patterns than 64 bits count
small : (c : After-count_of) → c.count_of.result < largest64
small c =
    let few = (size-within _ _ c.in_size.ensures (ap not c.if-not-in_size.false)).1 in
    omega (arith, c.count_of.ensures, count_most _ few)

pub returns-then-not-in_size : goal.returns-then-not-in_size
unfolding sum_of
returns-then-not-in_size c = ports-refused _ _ _ (sym c.in_size.ensures ∙ not-true _ (ap not c.if-not-in_size.true))

pub returns-then-not-some_benches : goal.returns-then-not-some_benches
unfolding sum_of
returns-then-not-some_benches c =
    benches-refused _ _ _ (sym c.in_size.ensures ∙ not-false _ (ap not c.if-not-in_size.false)) (sym c.some_benches.ensures ∙ not-true _ (ap not c.if-not-some_benches.true))

pub overflow_mul-benches : goal.overflow_mul-benches
overflow_mul-benches c = omega (arith, (one-of _ _ (benches (goal.at.overflow_mul-benches c).Else-not-some_benches)).1)

pub returns-then-counts-benches : goal.returns-then-counts-benches
returns-then-counts-benches c = numbers-refused _ _ _ (ports (goal.at.returns-then-counts-benches c).Else-not-some_benches) (benches (goal.at.returns-then-counts-benches c).Else-not-some_benches) c.if-counts-benches.true

pub overflow_cast-ports : goal.overflow_cast-ports
overflow_cast-ports c = omega (arith, (size-within _ _ c.in_size.ensures (ap not c.if-not-in_size.false)).1)

pub count_of-requires : goal.count_of-requires
count_of-requires c = (size-within _ _ c.in_size.ensures (ap not c.if-not-in_size.false)).1

pub add_up-requires : goal.add_up-requires
add_up-requires c = (small (goal.at.add_up-requires c).After-count_of, (one-of _ _ (benches (goal.at.add_up-requires c).Else-not-some_benches)).0, (one-of _ _ (benches (goal.at.add_up-requires c).Else-not-some_benches)).1, c.if-counts-benches.false)

pub returns : goal.returns
returns c =
    c.add_up.ensures ∙ ap (λ t. added_up t c.args.benches c.args.counts.now) c.count_of.ensures ∙ sum_told _ _ _ (ports (goal.at.returns c).Else-not-some_benches) (benches (goal.at.returns c).Else-not-some_benches) c.if-counts-benches.false
