-- `text_numbers::writing::places` counts the digits: each division takes one, and the digits counted and those of the rest are one more than all.
use mathlib.Core.Path.{◌≡◌}
use Prim.Native.Nat.{◌+◌}
use lib.ListN.{length}
use Rattle.text_numbers.specs.Decimal.{digits_of}
use Rattle.text_numbers.proofs.writing.places.Given as goal

-- k digits, the last of the rest's among them, and the rest's others are the digits of n
abbrev pub invariant-loop-rest : goal.invariant-loop-rest
invariant-loop-rest l = l.k + length (digits_of l.rest) ≡ length (digits_of l.n) + 1

abbrev pub decreases-loop-rest : goal.decreases-loop-rest
decreases-loop-rest l = l.rest
