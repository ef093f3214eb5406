-- `patterns::ranking::unrank` writes the pattern of the list at the rank, and on a refusal (1, then 6) leaves the slice as it was.
-- Assumes nothing.
use mathlib.Core.Path.{◌∙◌}
use Rattle.listing.specs.Limits.{most_ports}
use Rattle.pattern_check.proofs.Passed.{passed-on}
use Rattle.patterns.proofs.Calls.{listed-parts}
use Rattle.patterns.proofs.Accepted.{unrank-refused, unrank-accepted}
use Rattle.patterns.proofs.ranking.unrank.Goals as goal

pub returns-in_err-listed-clause-answer : goal.returns-in_err-listed-clause-answer
returns-in_err-listed-clause-answer c = passed-on _ _ _ c.from_residual.ensures.1 ∙ c.in_err-listed.ensures

pub returns-in_err-listed-clause-bytes : goal.returns-in_err-listed-clause-bytes
returns-in_err-listed-clause-bytes c = (unrank-refused most_ports _ _ _ _ c.in_err-listed.ensures).1

pub put_pattern-requires : goal.put_pattern-requires
put_pattern-requires c = let h = listed-parts most_ports _ _ c.in_ok-listed.ensures in (h.1, h.2)

pub returns-clause-bytes : goal.returns-clause-bytes
returns-clause-bytes c = c.put_pattern.ensures ∙ (unrank-accepted most_ports _ _ c.in_ok-listed.ensures).1
