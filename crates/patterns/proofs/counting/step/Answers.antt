-- `patterns::counting::step` tells what `step_of` says: 1 for the ports, 6 for the rank, else the place round the circuit. Two counts of 20 ports fit 64 bits.
use mathlib.Core.Path.{sym, ap, ◌∙◌}
use Prim.Native.Nat.{ℕ}
use mir.Syntax.{w64}
use mir.Val.{to_z, of_z}
use mir.ValLaws.{to_z-of_z}
use Rattle.listing.specs.Count.{count}
use Rattle.listing.specs.Around.{around}
use Rattle.listing.proofs.Limits.{counts-fit}
use Rattle.words.specs.Told.{accepted}
use Rattle.patterns.specs.Calls.{step_of}
use Rattle.pattern_check.proofs.Calls.{fits}
use Rattle.pattern_check.proofs.Passed.{passed-on}
use Rattle.patterns.proofs.Calls.{is-rank, listed-parts, listed-refused}
use Rattle.patterns.proofs.counting.step.Goals as goal

pub returns-in_err-listed : goal.returns-in_err-listed
unfolding step_of
returns-in_err-listed c = passed-on _ _ _ c.from_residual.ensures.1 ∙ listed-refused _ _ _ _ _ _ c.in_err-listed.ensures

pub count_of-requires : goal.count_of-requires
count_of-requires c = (listed-parts _ _ _ c.in_ok-listed.ensures).1

pub place_around-requires : goal.place_around-requires
place_around-requires c =
    let h = listed-parts _ _ _ c.in_ok-listed.ensures in
    rw c.count_of.ensures (h.2, counts-fit _ h.1)

pub returns : goal.returns
unfolding step_of
returns c =
    let h = listed-parts _ _ _ c.in_ok-listed.ensures in
    ap accepted
    (c.place_around.ensures
    ∙ ap (λ (x : ℕ). around x c.args.rank (to_z w64 (of_z w64 c.args.k))) c.count_of.ensures
    ∙ ap (around (count c.args.ports) c.args.rank) (to_z-of_z w64 c.args.k c.ranges.k))
    ∙ sym (fits _ _ _ h.0 h.1 ∙ is-rank _ _ _ h.2)
