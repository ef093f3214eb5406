-- `campaign_state::judging::end_right` asks what the definition asks, in its order.
use mathlib.Core.Path.{ap}
use native.Mathlib.Numerals.{add-one}
use native.Mathlib.Omega.{arith}
use borrow.Author.Rules.{rules}
use Rattle.std.proofs.lemmas.Bool.Decides.{nat_tests}
use Rattle.promise.specs.Tests.{implies}
use Rattle.campaign_state.proofs.Places.{Sized, many-legs, leg-below, few-legs}
use Rattle.campaign_state.proofs.judging.end_right.Goals as goal
use Rattle.campaign_state.proofs.judging.end_right.Goals.{Start}

sized : (c : Start) → Sized c.args.s
sized c = record { starts = search rules; runs = search rules; panel = search rules }

pub overflow_add-s : goal.overflow_add-s
overflow_add-s c =
    omega (arith, leg-below c.args.s (sized (goal.at.overflow_add-s c).Start) c.requires.0, few-legs c.args.s (sized (goal.at.overflow_add-s c).Start) c.requires.0)

pub returns-then-not-s : goal.returns-then-not-s
unfolding implies
returns-then-not-s c = grind (arith, nat_tests)

pub returns-then-s : goal.returns-then-s
unfolding implies
returns-then-s c =
    let many = many-legs c.args.s (sized (goal.at.returns-then-s c).Start) c.requires.0.places in
    rw (many, ← add-one c.args.s.leg, ← ap (λ l. l.run) c.requires.1) (grind (arith, nat_tests))

pub returns-else-s : goal.returns-else-s
unfolding implies
returns-else-s c =
    let many = many-legs c.args.s (sized (goal.at.returns-else-s c).Start) c.requires.0.places in
    rw (many, ← add-one c.args.s.leg, ← ap (λ l. l.run) c.requires.1) (grind (arith, nat_tests))
