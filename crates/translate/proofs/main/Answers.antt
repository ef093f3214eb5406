-- `translate::main`: so many turns leave lines with numbers of 64 bits.
-- Assumes nothing.
use mathlib.Core.Path.{refl, ◌∙◌}
use native.Mathlib.Omega.{arith}
use Rattle.translate.proofs.main.Goals as goal

pub loop-turn-init : goal.loop-turn-init
loop-turn-init c = record { long = refl; known = (omega arith, λ e. omega arith); held = omega arith; lines = omega arith }

pub take_turn-requires : goal.take_turn-requires
take_turn-requires c =
    let I = c.loop-turn.invariant in
    (I.known, omega (arith, I.held, I.long), omega (arith, I.long, I.lines))

pub loop-turn-preserved : goal.loop-turn-preserved
loop-turn-preserved c =
    let I = c.loop-turn.invariant in
    let T = c.in-Some.ensures in
    record {
      long = c.take_turn.auto.text ∙ I.long;
      known = T.0;
      held = omega (arith, T.1, I.long);
      lines = omega (arith, T.2, I.long, I.lines);
    }
