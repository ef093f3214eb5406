-- `patterns::counting::count` tells what `count_of` says: refusal 1 outside 2 to 20 ports, else the table's count.
use mathlib.Core.Path.{sym, ap, ◌∙◌}
use Rattle.words.specs.Told.{accepted}
use Rattle.patterns.specs.Calls.{count_of}
use Rattle.pattern_check.proofs.Calls.{fits, size-accepted, size-refused}
use Rattle.pattern_check.proofs.Passed.{passed-on}
use Rattle.patterns.proofs.counting.count.Goals as goal

pub returns-in_err-sized : goal.returns-in_err-sized
unfolding count_of
returns-in_err-sized c = passed-on _ _ _ c.from_residual.ensures.1 ∙ size-refused _ _ _ _ _ c.in_err-sized.ensures

pub count_of-requires : goal.count_of-requires
count_of-requires c = (size-accepted _ _ c.in_ok-sized.ensures).1

pub returns : goal.returns
unfolding count_of
returns c = let size = size-accepted _ _ c.in_ok-sized.ensures in ap accepted c.count_of.ensures ∙ sym (fits _ _ _ size.0 size.1)
