-- `face_state::rehearsals::wide` stores one word more at each turn.
-- Assumes nothing.
use mathlib.Core.Path.{ap, ◌∙◌}
use Prim.Native.Nat.{◌+◌}
use native.Mathlib.Omega.{arith}
use lib.ListN.{take, set}
use lib.Seq.{take_all}
use borrow.Author.Rules.{rules}
use Rattle.pattern_carry.proofs.Filling.{copy_stored, copy-all}
use Rattle.face_state.specs.States.{state_count}
use Rattle.face_state.specs.Rehearsals.{widened}
use Rattle.face_state.proofs.RehearsalWords.{wide-many}
use Rattle.face_state.proofs.rehearsals.wide.Goals as goal

pub loop-at-preserved : goal.loop-at-preserved
loop-at-preserved c =
    let t = widened c.args.words.now in (
      search rules,
      search rules,
      ap (λ v. take (c.loop-at.at + 1) (set c.loop-at.state c.loop-at.at v)) c.wide_word.ensures
          ∙ copy_stored t c.loop-at.state c.loop-at.at (omega arith) (omega (arith, wide-many c.args.words.now c.told-words)) c.loop-at.invariant.2,
    )

pub returns : goal.returns
returns c =
    let t = widened c.args.words.now in
    copy-all t c.loop-at.state c.loop-at.at state_count (omega arith) c.loop-at.invariant.1 c.loop-at.invariant.2
    ∙ take_all state_count t (omega (arith, wide-many c.args.words.now c.told-words))
