-- `face_state::rehearsals::wide_word`: the rehearsal's words, and zeros between step and end and for the seat.
-- Assumes nothing.
use mathlib.Core.Path.{sym, ap, ◌∙◌}
use Rattle.face_state.specs.States.{word}
use Rattle.face_state.specs.Rehearsals.{widened}
use Rattle.face_state.proofs.RehearsalWords.{wide-front, wide-none, wide-end}
use Rattle.face_state.proofs.rehearsals.wide_word.Goals as goal

pub returns-then-at-lt-REHEARSAL_ENDED : goal.returns-then-at-lt-REHEARSAL_ENDED
returns-then-at-lt-REHEARSAL_ENDED c =
    wide-front c.args.words.now c.told-words c.args.at c.if-at-lt-REHEARSAL_ENDED.true

pub returns-then-at-ne-ENDED : goal.returns-then-at-ne-ENDED
returns-then-at-ne-ENDED c =
    wide-none c.args.words.now c.told-words c.args.at c.if-at-lt-REHEARSAL_ENDED.false c.requires c.if-at-ne-ENDED.true

pub returns : goal.returns
returns c =
    wide-end c.args.words.now c.told-words ∙ ap (word (widened c.args.words.now)) (sym c.if-at-ne-ENDED.false)
