-- `face_campaign::jidrofex_begin`: 15 for a state of another length; else the text is judged, and its first state, or zeros, is left.
-- Assumes nothing.
use mathlib.Core.Path.{ap, ◌∙◌}
use Rattle.campaign.specs.Calls.{begun_of}
use Rattle.face_values.specs.Answers.{nothing}
use Rattle.face_values.proofs.Tells.{tells-leaving}
use Rattle.face_state.specs.States.{state_count, state_words}
use Rattle.face_laws.proofs.OnState.{begin-right, begin-wrong}
use Rattle.face_campaign.proofs.jidrofex_begin.Goals as goal

pub returns-then-state-ne-STATE_WORDS-clause-number : goal.returns-then-state-ne-STATE_WORDS-clause-number
returns-then-state-ne-STATE_WORDS-clause-number c = (tells-leaving nothing (begin-wrong state_count c.args.text.now (state_words (begun_of c.args.text.now)) c.args.state.now c.if-state-ne-STATE_WORDS.true) (c.unfit.ensures.number, c.unfit.ensures.words)).0

pub returns-then-state-ne-STATE_WORDS-clause-words : goal.returns-then-state-ne-STATE_WORDS-clause-words
returns-then-state-ne-STATE_WORDS-clause-words c = (tells-leaving nothing (begin-wrong state_count c.args.text.now (state_words (begun_of c.args.text.now)) c.args.state.now c.if-state-ne-STATE_WORDS.true) (c.unfit.ensures.number, c.unfit.ensures.words)).1.0

pub returns-then-state-ne-STATE_WORDS-clause-left : goal.returns-then-state-ne-STATE_WORDS-clause-left
returns-then-state-ne-STATE_WORDS-clause-left c = (tells-leaving nothing (begin-wrong state_count c.args.text.now (state_words (begun_of c.args.text.now)) c.args.state.now c.if-state-ne-STATE_WORDS.true) (c.unfit.ensures.number, c.unfit.ensures.words)).1.1

pub returns-clause-number : goal.returns-clause-number
returns-clause-number c = let w = begin-right state_count c.args.text.now (state_words (begun_of c.args.text.now)) c.args.state.now c.if-state-ne-STATE_WORDS.false in
    let left = c.state_out.ensures ∙ ap state_words c.begin-begun.ensures.state ∙ w.1 in
    (tells-leaving nothing (c.begin-begun.ensures.judged ∙ w.0, left) (c.give_outcome.ensures.number, c.give_outcome.ensures.words)).0

pub returns-clause-words : goal.returns-clause-words
returns-clause-words c = let w = begin-right state_count c.args.text.now (state_words (begun_of c.args.text.now)) c.args.state.now c.if-state-ne-STATE_WORDS.false in
    let left = c.state_out.ensures ∙ ap state_words c.begin-begun.ensures.state ∙ w.1 in
    (tells-leaving nothing (c.begin-begun.ensures.judged ∙ w.0, left) (c.give_outcome.ensures.number, c.give_outcome.ensures.words)).1.0

pub returns-clause-left : goal.returns-clause-left
returns-clause-left c = let w = begin-right state_count c.args.text.now (state_words (begun_of c.args.text.now)) c.args.state.now c.if-state-ne-STATE_WORDS.false in
    let left = c.state_out.ensures ∙ ap state_words c.begin-begun.ensures.state ∙ w.1 in
    (tells-leaving nothing (c.begin-begun.ensures.judged ∙ w.0, left) (c.give_outcome.ensures.number, c.give_outcome.ensures.words)).1.1
