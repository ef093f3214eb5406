-- `text_numbers::writing::spelt` sets the digits of n from the last to the first. The digits of the rest have still to be set: put over the front of the array
-- they always make the digits of n and then zeros.
use mathlib.Core.Path.{◌∙◌}
use Prim.Native.Nat.{ℕ, ◌-◌, ◌≤◌}
use native.Mathlib.Omega.{arith}
use lib.ListN.{length, length-replicate}
use borrow.Author.Rules.{rules}
use Rattle.text_numbers.specs.Decimal.{digits_of, most_digits}
use Rattle.text_numbers.proofs.Lengths.{length_more, length_some, digits-64}
use Rattle.text_numbers.proofs.Texts.{digit_set, first-set, over_zeros}
use Rattle.text_numbers.proofs.writing.spelt.Goals as goal

pub loop-rest-init : goal.loop-rest-init
loop-rest-init c = (
  search rules,
  omega (arith, digits-64 c.args.n (search rules)),
  omega arith,
  length-replicate {A = ℕ} most_digits 0,
  over_zeros most_digits c.args.n,
)

pub overflow_sub-bytes : goal.overflow_sub-bytes
overflow_sub-bytes c = omega (arith, length_some c.loop-rest.rest)

pub loop-rest-preserved : goal.loop-rest-preserved
loop-rest-preserved c =
    let some : 1 ≤ length (digits_of c.loop-rest.rest) = length_some c.loop-rest.rest in (
      search rules,
      c.loop-rest.invariant.1,
      omega (arith, length_more c.loop-rest.rest c.loop-rest-test.true),
      search rules,
      digit_set c.loop-rest.rest c.loop-rest.bytes (c.args.k - c.loop-rest.place) c.loop-rest-test.true (omega arith) (omega arith) ∙ c.loop-rest.invariant.4,
    )

pub overflow_sub-bytes-2 : goal.overflow_sub-bytes-2
overflow_sub-bytes-2 c = omega (arith, length_some c.loop-rest.rest)

pub returns : goal.returns
returns c =
    let some : 1 ≤ length (digits_of c.loop-rest.rest) = length_some c.loop-rest.rest in
    first-set c.loop-rest.rest c.loop-rest.bytes (c.args.k - c.loop-rest.place) c.loop-rest-test.false (omega arith) (omega arith) ∙ c.loop-rest.invariant.4
