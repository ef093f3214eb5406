-- `explaining_line::named_in`: a reason that is not 4 has another number.
-- Assumes nothing.
use borrow.Author.Tests.{ne_eqb}
use Rattle.words.specs.declared.Reason.TheVariants.{Repeated}
use Rattle.explaining_words.proofs.Wrong.{not-number}
use Rattle.explaining_line.proofs.named_in.Goals as goal

pub returns-in_default : goal.returns-in_default
returns-in_default c = rw (ne_eqb _ 4 (not-number _ Repeated c.in_default.not-Repeated))
