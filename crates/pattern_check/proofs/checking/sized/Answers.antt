-- `pattern_check::checking::sized` meets its contract, by the test of the size.
-- Assumes nothing.
use mathlib.Core.Path.{sym, ap, ◌∙◌}
use mathlib.Core.Bool.{not}
use Rattle.words.specs.Meaning.{refusal_of}
use Rattle.pattern_check.proofs.Calls.{in-size, out-of-size}
use Rattle.pattern_check.proofs.checking.sized.Goals as goal

pub returns-then-in_size : goal.returns-then-in_size
returns-then-in_size c = sym (in-size _ _ _ c.in_size.ensures (ap not c.if-in_size.true))

pub returns-else-in_size : goal.returns-else-in_size
returns-else-in_size c = ap refusal_of c.nowhere.ensures ∙ out-of-size _ _ _ c.in_size.ensures (ap not c.if-in_size.false)
