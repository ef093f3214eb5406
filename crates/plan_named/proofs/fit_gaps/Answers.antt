-- `plan_named::fit_gaps`: the gaps are counted first, so that nothing is written where they do not fit.
-- Assumes nothing.
use mathlib.Core.Path.{ap, ◌∙◌}
use native.Mathlib.Omega.{arith}
use borrow.Author.Rules.{rules}
use Rattle.words.specs.Told.{accepted}
use Rattle.words.specs.Meaning.{refusal_of}
use Rattle.promise_arcs.proofs.Named.{length-numbers}
use Rattle.plan_rules.specs.Planned.{device}
use Rattle.plan_rules.specs.Places.{planned_of}
use Rattle.plan_rules.proofs.Rules.{ruled}
use Rattle.plan_arcs.specs.Arcs.{gaps_in}
use Rattle.plan_arcs.proofs.Found.{left-few}
use Rattle.plan_named.specs.Calls.{Names}
use Rattle.plan_named.proofs.Surveys.{no-room, room, tally-names}
use Rattle.plan_named.proofs.fit_gaps.Goals as goal

pub overflow_mul-tally : goal.overflow_mul-tally
overflow_mul-tally c =
    omega (arith, c.count_named-tally.ensures.gaps, left-few c.args.ruled.plan (ruled device c.args.ruled.plan (search rules) (search rules) c.args.ruled.ruled))

pub returns-then-gaps-tally-clause-answer : goal.returns-then-gaps-tally-clause-answer
returns-then-gaps-tally-clause-answer c = let w = no-room (planned_of c.args.ruled.plan) c.args.gaps.now (omega (arith, c.count_named-tally.ensures.gaps)) in
    ap (refusal_of {A = Names}) c.nowhere.ensures ∙ w.0

pub returns-then-gaps-tally-clause-numbers : goal.returns-then-gaps-tally-clause-numbers
returns-then-gaps-tally-clause-numbers c = let w = no-room (planned_of c.args.ruled.plan) c.args.gaps.now (omega (arith, c.count_named-tally.ensures.gaps)) in
    w.1

pub put_gaps-requires : goal.put_gaps-requires
put_gaps-requires c =
    omega (arith, length-numbers (gaps_in c.args.ruled.plan), c.count_named-tally.ensures.gaps)

pub returns-clause-answer : goal.returns-clause-answer
returns-clause-answer c = let w = room (planned_of c.args.ruled.plan) c.args.gaps.now (omega (arith, c.count_named-tally.ensures.gaps)) in
    ap accepted (tally-names c.args.ruled.plan _ c.count_named-tally.ensures) ∙ w.0

pub returns-clause-numbers : goal.returns-clause-numbers
returns-clause-numbers c = let w = room (planned_of c.args.ruled.plan) c.args.gaps.now (omega (arith, c.count_named-tally.ensures.gaps)) in
    c.put_gaps.ensures ∙ w.1
