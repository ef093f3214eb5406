-- `benches_calls::sharing::share` tells what `share_of` says: 1, 21, 22, and then the bench's leg, or that it has no plan. All the patterns fit 64 bits.
use mathlib.Core.Path.{◌≡◌, sym, ap, ap₂, ◌∙◌}
use mathlib.Core.Bool.{true, not}
use mathlib.Core.Option.{Option}
use Prim.Native.Nat.{◌<◌}
use native.Mathlib.Omega.{arith}
use borrow.Author.Tests.{not-true, not-false}
use Rattle.listing.specs.Limits.{most_ports, largest64}
use Rattle.listing.proofs.Limits.{count_most}
use Rattle.words.specs.Told.{accepted}
use Rattle.words.specs.Shape.{one_of}
use Rattle.words.proofs.Shape.{one-of}
use Rattle.promise.specs.Plan.{Leg}
use Rattle.pattern_check.specs.Calls.{in_size}
use Rattle.pattern_check.proofs.Calls.{size-within}
use Rattle.benches_laws.specs.Shares.{share, begins}
use Rattle.benches_laws.specs.Plans.{leg_from, plan_of}
use Rattle.benches_laws.specs.Calls.{most_benches, share_of}
use Rattle.benches_laws.proofs.Told.{ports-refused, benches-refused, bench-refused, share-told}
use Rattle.benches_calls.proofs.sharing.share.Goals as goal
use Rattle.benches_calls.proofs.sharing.share.Goals.{After-count_of-total, Else-not-some_benches}

-- the ports are good, and so are the benches
module _ (c : Else-not-some_benches) where
  ports : in_size most_ports c.args.ports ≡ true
  ports = sym c.in_size.ensures ∙ not-false _ (ap not c.if-not-in_size.false)

  benches : one_of most_benches c.args.benches ≡ true
  benches = sym c.some_benches.ensures ∙ not-false _ (ap not c.if-not-some_benches.false)

-- there are fewer patterns than 64 bits count
small : (c : After-count_of-total) → c.count_of-total.result < largest64
small c =
    let few = (size-within _ _ c.in_size.ensures (ap not c.if-not-in_size.false)).1 in
    omega (arith, c.count_of-total.ensures, count_most _ few)

pub returns-then-not-in_size : goal.returns-then-not-in_size
unfolding share_of
returns-then-not-in_size c = ports-refused _ _ _ (sym c.in_size.ensures ∙ not-true _ (ap not c.if-not-in_size.true))

pub returns-then-not-some_benches : goal.returns-then-not-some_benches
unfolding share_of
returns-then-not-some_benches c =
    benches-refused _ _ _ (sym c.in_size.ensures ∙ not-false _ (ap not c.if-not-in_size.false)) (sym c.some_benches.ensures ∙ not-true _ (ap not c.if-not-some_benches.true))

pub returns-then-benches-bench : goal.returns-then-benches-bench
returns-then-benches-bench c = bench-refused _ _ _ (ports (goal.at.returns-then-benches-bench c).Else-not-some_benches) (benches (goal.at.returns-then-benches-bench c).Else-not-some_benches) (omega (arith, c.if-benches-bench.true))

pub overflow_cast-ports : goal.overflow_cast-ports
overflow_cast-ports c = omega (arith, (size-within _ _ c.in_size.ensures (ap not c.if-not-in_size.false)).1)

pub count_of-total-requires : goal.count_of-total-requires
count_of-total-requires c = (size-within _ _ c.in_size.ensures (ap not c.if-not-in_size.false)).1

-- the bench is below the benches
pub start_of-requires : goal.start_of-requires
start_of-requires c = (small c, omega (arith, c.if-benches-bench.false))

pub marks_of-requires : goal.marks_of-requires
marks_of-requires c = (small (goal.at.marks_of-requires c).After-count_of-total, (one-of _ _ (benches (goal.at.marks_of-requires c).Else-not-some_benches)).0)

pub returns : goal.returns
unfolding plan_of
returns c =
    c.leg_from.ensures ∙ ap accepted (ap₂ {C = Option Leg} leg_from (c.start_of.ensures ∙ ap (λ t. begins t c.args.benches c.args.bench) c.count_of-total.ensures) (c.marks_of.ensures ∙ ap (λ t. share t c.args.benches c.args.bench) c.count_of-total.ensures)) ∙ share-told _ _ _ (ports (goal.at.returns c).Else-not-some_benches) (benches (goal.at.returns c).Else-not-some_benches) (omega (arith, c.if-benches-bench.false))
