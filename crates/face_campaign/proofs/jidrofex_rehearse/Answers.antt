-- `face_campaign::jidrofex_rehearse`: 15 for words of another number; else the text is judged, and its rehearsal at the first moment, or zeros, is left.
-- Assumes nothing.
use mathlib.Core.Path.{ap, ◌∙◌}
use Rattle.campaign.specs.Calls.{begun_of}
use Rattle.printing.specs.Rehearsals.{rehearsal_of}
use Rattle.face_values.specs.Answers.{nothing}
use Rattle.face_values.proofs.Tells.{tells-leaving}
use Rattle.face_state.specs.Rehearsals.{rehearsal_count, rehearsal_words}
use Rattle.face_laws.proofs.OnState.{begin-right, begin-wrong}
use Rattle.face_campaign.proofs.jidrofex_rehearse.Goals as goal

pub returns-then-rehearsal-ne-REHEARSAL_WORDS-clause-number : goal.returns-then-rehearsal-ne-REHEARSAL_WORDS-clause-number
returns-then-rehearsal-ne-REHEARSAL_WORDS-clause-number c = (tells-leaving nothing (begin-wrong rehearsal_count c.args.text.now (rehearsal_words (rehearsal_of (begun_of c.args.text.now))) c.args.rehearsal.now c.if-rehearsal-ne-REHEARSAL_WORDS.true) (c.unfit.ensures.number, c.unfit.ensures.words)).0

pub returns-then-rehearsal-ne-REHEARSAL_WORDS-clause-words : goal.returns-then-rehearsal-ne-REHEARSAL_WORDS-clause-words
returns-then-rehearsal-ne-REHEARSAL_WORDS-clause-words c = (tells-leaving nothing (begin-wrong rehearsal_count c.args.text.now (rehearsal_words (rehearsal_of (begun_of c.args.text.now))) c.args.rehearsal.now c.if-rehearsal-ne-REHEARSAL_WORDS.true) (c.unfit.ensures.number, c.unfit.ensures.words)).1.0

pub returns-then-rehearsal-ne-REHEARSAL_WORDS-clause-left : goal.returns-then-rehearsal-ne-REHEARSAL_WORDS-clause-left
returns-then-rehearsal-ne-REHEARSAL_WORDS-clause-left c = (tells-leaving nothing (begin-wrong rehearsal_count c.args.text.now (rehearsal_words (rehearsal_of (begun_of c.args.text.now))) c.args.rehearsal.now c.if-rehearsal-ne-REHEARSAL_WORDS.true) (c.unfit.ensures.number, c.unfit.ensures.words)).1.1

pub returns-clause-number : goal.returns-clause-number
returns-clause-number c = let w = begin-right rehearsal_count c.args.text.now (rehearsal_words (rehearsal_of (begun_of c.args.text.now))) c.args.rehearsal.now c.if-rehearsal-ne-REHEARSAL_WORDS.false in
    let left = c.rehearsal_out.ensures ∙ ap rehearsal_words c.rehearse-rehearsed.ensures.rehearsal ∙ w.1 in
    (tells-leaving nothing (c.rehearse-rehearsed.ensures.judged ∙ w.0, left) (c.give_outcome.ensures.number, c.give_outcome.ensures.words)).0

pub returns-clause-words : goal.returns-clause-words
returns-clause-words c = let w = begin-right rehearsal_count c.args.text.now (rehearsal_words (rehearsal_of (begun_of c.args.text.now))) c.args.rehearsal.now c.if-rehearsal-ne-REHEARSAL_WORDS.false in
    let left = c.rehearsal_out.ensures ∙ ap rehearsal_words c.rehearse-rehearsed.ensures.rehearsal ∙ w.1 in
    (tells-leaving nothing (c.rehearse-rehearsed.ensures.judged ∙ w.0, left) (c.give_outcome.ensures.number, c.give_outcome.ensures.words)).1.0

pub returns-clause-left : goal.returns-clause-left
returns-clause-left c = let w = begin-right rehearsal_count c.args.text.now (rehearsal_words (rehearsal_of (begun_of c.args.text.now))) c.args.rehearsal.now c.if-rehearsal-ne-REHEARSAL_WORDS.false in
    let left = c.rehearsal_out.ensures ∙ ap rehearsal_words c.rehearse-rehearsed.ensures.rehearsal ∙ w.1 in
    (tells-leaving nothing (c.rehearse-rehearsed.ensures.judged ∙ w.0, left) (c.give_outcome.ensures.number, c.give_outcome.ensures.words)).1.1
