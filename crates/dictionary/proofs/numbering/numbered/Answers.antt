-- `dictionary::numbering::numbered` writes the pattern of the dictionary at the number, and on a refusal leaves the slice as it was.
-- Assumes nothing.
use mathlib.Core.Path.{◌∙◌}
use native.Mathlib.Omega.{arith}
use Rattle.listing.specs.Limits.{most_ports}
use Rattle.pattern_check.proofs.Passed.{passed-on}
use Rattle.patterns.proofs.Calls.{listed-parts}
use Rattle.dictionary_laws.proofs.Told.{pattern-refused, pattern-told}
use Rattle.dictionary.proofs.numbering.numbered.Goals as goal

pub returns-in_err-listed-clause-answer : goal.returns-in_err-listed-clause-answer
returns-in_err-listed-clause-answer c = passed-on _ _ _ c.from_residual.ensures.1 ∙ (pattern-refused most_ports _ _ _ _ c.in_err-listed.ensures).0

pub returns-in_err-listed-clause-bytes : goal.returns-in_err-listed-clause-bytes
returns-in_err-listed-clause-bytes c = (pattern-refused most_ports _ _ _ _ c.in_err-listed.ensures).1

pub put_numbered-requires : goal.put_numbered-requires
put_numbered-requires c = let h = listed-parts most_ports _ _ c.in_ok-listed.ensures in (omega (arith, h.0), h.1, h.2)

pub returns-clause-bytes : goal.returns-clause-bytes
returns-clause-bytes c = c.put_numbered.ensures ∙ (pattern-told most_ports _ _ c.in_ok-listed.ensures).1
