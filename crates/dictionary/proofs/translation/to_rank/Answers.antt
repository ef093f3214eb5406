-- `dictionary::translation::to_rank` tells 1, then 6, or the rank of the pattern that the number names, which the room holds.
-- Assumes nothing.
use mathlib.Core.Path.{sym, ap, ◌∙◌}
use mathlib.Core.Bool.{false}
use Prim.Native.Nat.{ℕ}
use native.Mathlib.Omega.{arith}
use Rattle.listing.specs.Limits.{most_ports}
use Rattle.pattern_check.proofs.Passed.{passed-on}
use Rattle.patterns.proofs.Calls.{listed-parts}
use Rattle.dictionary_laws.specs.Calls.{number_to_rank_of}
use Rattle.dictionary_laws.proofs.Told.{room_for, room-listed, translated-refused, rank-told}
use Rattle.dictionary.proofs.translation.to_rank.Goals as goal

pub returns-in_err-listed : goal.returns-in_err-listed
returns-in_err-listed c =
    passed-on _ _ _ c.from_residual.ensures.1 ∙ translated-refused most_ports c.args.ports c.args.number false _ _ c.in_err-listed.ensures

pub slice_bounds-room-end : goal.slice_bounds-room-end
slice_bounds-room-end c = (listed-parts most_ports _ _ c.in_ok-listed.ensures).1

pub slice_bounds-pattern-end : goal.slice_bounds-pattern-end
slice_bounds-pattern-end c = sym (room_for _ _ c.in_ok-listed.ensures)

pub put_numbered-requires : goal.put_numbered-requires
put_numbered-requires c = let h = listed-parts most_ports _ _ (room-listed _ _ c.in_ok-listed.ensures) in (omega (arith, h.0), h.1, h.2)

pub returns : goal.returns
returns c =
    let e = c.in_ok-listed.ensures in
    c.rank.ensures ∙ rank-told most_ports _ _ (room-listed _ _ e) _ c.put_numbered.ensures
    ∙ ap (λ (n : ℕ). number_to_rank_of most_ports n c.args.number) (room_for _ _ e)
