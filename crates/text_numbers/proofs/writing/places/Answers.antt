-- `text_numbers::writing::places` counts the digits: each division takes one, and the digits counted and those of the rest are one more than all.
use native.Mathlib.Omega.{arith}
use borrow.Author.Rules.{rules}
use Rattle.text_numbers.proofs.Lengths.{length-one, length_more, length_some, digits-64}
use Rattle.text_numbers.proofs.writing.places.Goals as goal

pub overflow_add-k : goal.overflow_add-k
overflow_add-k c = omega (arith, length_some c.loop-rest.rest, digits-64 c.args.n (search rules))

pub loop-rest-preserved : goal.loop-rest-preserved
loop-rest-preserved c = omega (arith, length_more c.loop-rest.rest c.loop-rest-test.true)

pub returns : goal.returns
returns c = omega (arith, length-one c.loop-rest.rest c.loop-rest-test.false)
