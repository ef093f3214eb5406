-- `patterns::ranking::rank` tells the check's refusal, or the place in the list of the pattern that the check accepted, by the arrays that it left.
use mathlib.Core.Path.{ap, ◌∙◌}
use Rattle.listing.specs.Limits.{most_ports}
use Rattle.words.specs.Told.{accepted}
use Rattle.pattern_check.proofs.Passed.{passed-on}
use Rattle.patterns.proofs.Accepted.{rank-refused, rank-accepted}
use Rattle.patterns.proofs.ranking.rank.Goals as goal

pub returns-in_err-taken : goal.returns-in_err-taken
returns-in_err-taken c = passed-on _ _ _ c.from_residual.ensures.1 ∙ rank-refused most_ports _ _ _ c.in_err-taken.ensures.answer

-- the check took the pattern in
pub returns : goal.returns
returns c =
    let t = c.in_ok-taken.ensures.taken in
    ap accepted (rw (t.1, t.0) at c.rank_of.ensures) ∙ rank-accepted most_ports _ c.in_ok-taken.ensures.answer
