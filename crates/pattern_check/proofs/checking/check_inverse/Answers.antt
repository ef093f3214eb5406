-- `pattern_check::checking::check_inverse` tells what `check_as` says: refusal 1 for the length; accepted if the one pass finds a pattern, which it takes in;
-- else the first fault, since what is accepted would be a pattern.
-- Assumes nothing.
use mathlib.Core.Path.{◌≡◌, refl, sym, ap, ◌∙◌}
use mathlib.Core.Bool.{true}
use mathlib.Core.List.{List}
use Prim.Native.Nat.{ℕ}
use lib.ListN.{length}
use Rattle.std.specs.Result.{IsErr}
use Rattle.std.specs.declared.result.Result.{Result}
use Rattle.std.specs.declared.result.Result.TheVariants.{Ok, Err}
use Rattle.listing.specs.Limits.{most_ports}
use Rattle.listing.specs.Pattern.{Derangement}
use Rattle.pattern_check.specs.Faults.{fault_of}
use Rattle.pattern_check.specs.Answers.{fault_is}
use Rattle.pattern_check.specs.Calls.{check_as}
use Rattle.pattern_check.specs.declared.answers.Fault.{Fault}
use Rattle.pattern_check.proofs.Sound.{check-derangement}
use Rattle.pattern_check.proofs.Calls.{size-accepted, size-refused, check-fault}
use Rattle.pattern_check.proofs.Passed.{passed-on}
use Rattle.pattern_check.proofs.Accepted.{pattern-accepted}
use Rattle.pattern_check.proofs.checking.check_inverse.Goals as goal

-- what is no pattern has a fault
at-fault : (r : Result (Unit {0}) Fault) (p : List ℕ) → fault_is r ≡ fault_of true p → (Derangement (length p) p → ⊥) → IsErr r
at-fault (Ok u) p e none = absurd (none (check-derangement p (sym e)))
at-fault (Err f) p e none = refl

pub returns-in_err-sized-clause-answer : goal.returns-in_err-sized-clause-answer
unfolding check_as
returns-in_err-sized-clause-answer c = passed-on _ _ _ c.from_residual.ensures.1 ∙ size-refused _ _ _ _ _ c.in_err-sized.ensures

pub invert-requires : goal.invert-requires
invert-requires c = (size-accepted _ _ c.in_ok-sized.ensures).1

pub returns-in-Some-clause-answer : goal.returns-in-Some-clause-answer
returns-in-Some-clause-answer c =
    let h = size-accepted _ _ c.in_ok-sized.ensures in
    let t = c.in-Some.ensures in
    pattern-accepted most_ports _ (record { low = h.0; high = h.1; is = rw (t.1, t.0) at c.in-Some.taken.arrays.pattern })

pub fault-requires : goal.fault-requires
fault-requires c = (size-accepted _ _ c.in_ok-sized.ensures).1

pub unwrap_err-requires : goal.unwrap_err-requires
unwrap_err-requires c = at-fault _ _ c.fault.ensures c.in-None.ensures

pub returns-in-None-clause-answer : goal.returns-in-None-clause-answer
returns-in-None-clause-answer c =
    let size = size-accepted _ _ c.in_ok-sized.ensures in
    c.from.ensures ∙ check-fault true most_ports _ _ size.0 size.1 (ap fault_is (sym c.unwrap_err.ensures) ∙ c.fault.ensures)
