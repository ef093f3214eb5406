-- `patterns::stepping::place_around` gives (rank + k) modulo the count: steps back are the rest of a round ahead.
use mathlib.Core.Path.{ap, ◌∙◌}
use native.Mathlib.Omega.{arith}
use mir.Syntax.{w64}
use mir.ValLaws.{to_z-of_z}
use Rattle.words.specs.Signs.{by_sign}
use Rattle.patterns.proofs.Around.{steps_on, steps_back}
use Rattle.patterns.proofs.stepping.place_around.Goals as goal

-- the sign that was found is k's
pub returns-then-by : goal.returns-then-by
returns-then-by c =
    let e = c.by_sign-by.ensures ∙ ap by_sign (to_z-of_z w64 c.args.k c.ranges.k) in
    steps_back c.args.total c.args.rank c.args.k e (omega arith) c.if-by.true

pub returns-else-by : goal.returns-else-by
returns-else-by c =
    let e = c.by_sign-by.ensures ∙ ap by_sign (to_z-of_z w64 c.args.k c.ranges.k) in
    steps_on c.args.total c.args.rank c.args.k e c.if-by.false
