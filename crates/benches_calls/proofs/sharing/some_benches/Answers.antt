-- `benches_calls::sharing::some_benches` meets its contract: its two tests are those of the definition.
use native.Mathlib.Omega.{arith}
use Rattle.std.proofs.lemmas.Bool.Decides.{nat_tests}
use Rattle.words.specs.Shape.{one_of}
use Rattle.benches_calls.proofs.sharing.some_benches.Goals as goal

pub returns-then-benches-ge1 : goal.returns-then-benches-ge1
unfolding one_of
returns-then-benches-ge1 c = grind (arith, nat_tests)

pub returns-else-benches-ge1 : goal.returns-else-benches-ge1
unfolding one_of
returns-else-benches-ge1 c = grind (arith, nat_tests)
