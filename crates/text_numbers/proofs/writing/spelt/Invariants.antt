-- `text_numbers::writing::spelt` sets the digits of n from the last to the first. The digits of the rest have still to be set: put over the front of the array
-- they always make the digits of n and then zeros.
use mathlib.Core.Path.{◌≡◌}
use Prim.Native.Nat.{◌+◌, ◌≤◌}
use lib.ListN.{length}
use Rattle.words.specs.Padded.{padded}
use Rattle.text_numbers.specs.Decimal.{digits_of, most_digits}
use Rattle.text_numbers.proofs.Texts.{over_front}
use Rattle.text_numbers.proofs.writing.spelt.Given as goal

-- the places from `place` on have the digits of the rest, which are still to be set
abbrev pub invariant-loop-rest : goal.invariant-loop-rest
invariant-loop-rest l =
    (1 ≤ l.place)
    × (l.k ≤ most_digits)
    × (l.place + length (digits_of l.rest) ≡ l.k + 1)
    × (length l.bytes ≡ most_digits)
    × (over_front l.rest l.bytes ≡ padded most_digits 0 (digits_of l.n))

abbrev pub decreases-loop-rest : goal.decreases-loop-rest
decreases-loop-rest l = l.rest
