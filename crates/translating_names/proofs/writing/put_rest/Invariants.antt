-- `translating_names::writing::put_rest`: of the entries after the first, those from entry k on are still to be put, each after a comma.
-- Assumes nothing.
use Rattle.line_putting.proofs.Putting.{Going}
use Rattle.translating_names.specs.Pieces.{rest_text}
use Rattle.translating_names.proofs.writing.put_rest.Given as goal

abbrev pub invariant-loop-k : goal.invariant-loop-k
invariant-loop-k l = Going l.from (rest_text l.p 1) l.initial.buf l.at (rest_text l.p l.k) l.buf
