-- `dictionary::onward::next` tells the check's refusal, and leaves the pattern of the next number of a pattern that the check accepted.
-- Assumes nothing.
use mathlib.Core.Path.{ap, ◌∙◌}
use Prim.Native.Nat.{◌<◌}
use native.Mathlib.Omega.{arith}
use lib.ListN.{length}
use Rattle.listing.specs.Count.{count}
use Rattle.listing.specs.Limits.{most_ports}
use Rattle.listing.specs.Neighbours.{next_rank}
use Rattle.listing.proofs.Neighbours.{next-below}
use Rattle.listing_dictionary.specs.Dictionary.{in_dictionary}
use Rattle.pattern_check.proofs.Passed.{passed-on}
use Rattle.pattern_check.proofs.Accepted.{accepted-pattern}
use Rattle.dictionary_laws.proofs.Told.{number_fits, next-refused, next-accepted}
use Rattle.dictionary.proofs.onward.next.Goals as goal
use Rattle.dictionary.proofs.onward.next.Goals.{After-number_after-next}

-- the next number is below the count
below : (c : After-number_after-next) → c.number_after-next.result < count (length c.args.p.now)
below c = rw (c.number_after-next.ensures, c.number_of.ensures) (next-below _ _ (number_fits most_ports _ c.in_ok-check.ensures))

pub returns-in_err-check-clause-answer : goal.returns-in_err-check-clause-answer
returns-in_err-check-clause-answer c = passed-on _ _ _ c.from_residual.ensures.1 ∙ (next-refused most_ports _ _ _ c.in_err-check.ensures).0

pub returns-in_err-check-clause-bytes : goal.returns-in_err-check-clause-bytes
returns-in_err-check-clause-bytes c = (next-refused most_ports _ _ _ c.in_err-check.ensures).1

pub overflow_cast-p : goal.overflow_cast-p
overflow_cast-p c = omega (arith, (accepted-pattern most_ports _ c.in_ok-check.ensures).high)

pub number_of-requires : goal.number_of-requires
number_of-requires c = let P = accepted-pattern most_ports _ c.in_ok-check.ensures in (omega (arith, P.low), P.high, P.is)

pub number_after-next-requires : goal.number_after-next-requires
number_after-next-requires c =
    let e = c.in_ok-check.ensures in
    ((accepted-pattern most_ports _ e).high, rw c.number_of.ensures (number_fits most_ports _ e))

pub put_numbered-requires : goal.put_numbered-requires
put_numbered-requires c =
    let P = accepted-pattern most_ports _ c.in_ok-check.ensures in
    (omega (arith, P.low), P.high, below (goal.at.put_numbered-requires c).After-number_after-next)

pub returns-clause-bytes : goal.returns-clause-bytes
returns-clause-bytes c = let told = next-accepted most_ports _ c.in_ok-check.ensures in
    c.put_numbered.ensures ∙ ap (in_dictionary (length c.args.p.now)) (c.number_after-next.ensures ∙ ap (next_rank (length c.args.p.now)) c.number_of.ensures) ∙ told.1
