-- `pattern_check::checking::in_size` meets its contract: fewer than 2 ports are too few, and of the others the most decides.
-- Assumes nothing.
use mathlib.Core.Path.{◌∙◌}
use borrow.Author.Tests.{lt-leb}
use Rattle.pattern_check.proofs.Calls.{few-out, rest_in}
use Rattle.pattern_check.proofs.checking.in_size.Goals as goal

pub returns-then-ports-ge-SHORTEST : goal.returns-then-ports-ge-SHORTEST
returns-then-ports-ge-SHORTEST c = rest_in _ _ c.if-ports-ge-SHORTEST.true

pub returns-else-ports-ge-SHORTEST : goal.returns-else-ports-ge-SHORTEST
returns-else-ports-ge-SHORTEST c = lt-leb _ _ c.if-ports-ge-SHORTEST.false ∙ few-out _ _ c.if-ports-ge-SHORTEST.false
