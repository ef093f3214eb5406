-- `dictionary::translation::to_number` tells 1, then 6, or the number of the pattern that the rank names, which the room holds.
-- Assumes nothing.
use mathlib.Core.Path.{sym, ap, ◌∙◌, subst}
use mathlib.Core.Bool.{true}
use mathlib.Core.List.{List}
use Prim.Native.Nat.{ℕ}
use native.Mathlib.Omega.{arith}
use Rattle.listing.specs.Limits.{most_ports}
use Rattle.words.specs.Told.{accepted}
use Rattle.pattern_check.proofs.Accepted.{Pattern}
use Rattle.pattern_check.proofs.Passed.{passed-on}
use Rattle.patterns.proofs.Calls.{listed-parts}
use Rattle.dictionary_laws.specs.Calls.{rank_to_number_of}
use Rattle.dictionary_laws.proofs.Told.{room_for, room-listed, translated-refused, rank-pattern, back-told}
use Rattle.dictionary.proofs.translation.to_number.Goals as goal

pub returns-in_err-listed : goal.returns-in_err-listed
returns-in_err-listed c =
    passed-on _ _ _ c.from_residual.ensures.1 ∙ translated-refused most_ports c.args.ports c.args.rank true _ _ c.in_err-listed.ensures

pub slice_bounds-room-end : goal.slice_bounds-room-end
slice_bounds-room-end c = (listed-parts most_ports _ _ c.in_ok-listed.ensures).1

pub slice_bounds-pattern-end : goal.slice_bounds-pattern-end
slice_bounds-pattern-end c = sym (room_for _ _ c.in_ok-listed.ensures)

pub put_pattern-requires : goal.put_pattern-requires
put_pattern-requires c = let h = listed-parts most_ports _ _ (room-listed _ _ c.in_ok-listed.ensures) in (h.1, h.2)

pub number_of-requires : goal.number_of-requires
number_of-requires c =
    let P = subst (λ (p : List ℕ). Pattern most_ports p) (sym c.put_pattern.ensures) (rank-pattern most_ports _ _ (room-listed _ _ c.in_ok-listed.ensures)) in
    (omega (arith, P.low), P.high, P.is)

pub returns : goal.returns
returns c =
    let e = c.in_ok-listed.ensures in
    ap accepted c.number_of.ensures ∙ back-told most_ports _ _ (room-listed _ _ e) _ c.put_pattern.ensures
    ∙ ap (λ (n : ℕ). rank_to_number_of most_ports n c.args.rank) (room_for _ _ e)
