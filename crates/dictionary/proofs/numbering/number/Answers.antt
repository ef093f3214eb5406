-- `dictionary::numbering::number` tells the check's refusal, or the number of the pattern that the check accepted.
-- Assumes nothing.
use mathlib.Core.Path.{ap, ◌∙◌}
use native.Mathlib.Omega.{arith}
use Rattle.listing.specs.Limits.{most_ports}
use Rattle.words.specs.Told.{accepted}
use Rattle.pattern_check.proofs.Accepted.{accepted-pattern}
use Rattle.pattern_check.proofs.Passed.{passed-on}
use Rattle.dictionary_laws.proofs.Told.{number-refused, number-accepted}
use Rattle.dictionary.proofs.numbering.number.Goals as goal

pub returns-in_err-check : goal.returns-in_err-check
returns-in_err-check c = passed-on _ _ _ c.from_residual.ensures.1 ∙ number-refused most_ports _ _ _ c.in_err-check.ensures

pub number_of-requires : goal.number_of-requires
number_of-requires c = let P = accepted-pattern most_ports _ c.in_ok-check.ensures in (omega (arith, P.low), P.high, P.is)

pub returns : goal.returns
returns c = ap accepted c.number_of.ensures ∙ number-accepted most_ports _ c.in_ok-check.ensures
