-- `face_state::state_in`: words that fit are the state of their fields, any other words are none.
-- Assumes nothing.
use mathlib.Core.Path.{◌≡◌, sym, ◌∙◌}
use mathlib.Core.Bool.{true}
use Rattle.face_state.specs.States.{limits, within}
use Rattle.face_state.proofs.StateWords.{words-fit, is_state, no-state}
use Rattle.face_state.proofs.state_in.Goals as goal
use Rattle.face_state.proofs.state_in.Goals.{Then-words_fit}

-- the words passed the test
passed : (c : Then-words_fit) → within c.args.words.now limits ≡ true
passed c = sym c.words_fit.ensures ∙ c.if-words_fit.true

pub state_at-requires : goal.state_at-requires
state_at-requires c = words-fit c.args.words.now (passed c)

pub returns-then-words_fit : goal.returns-then-words_fit
returns-then-words_fit c = is_state c.args.words.now (passed (goal.at.returns-then-words_fit c).Then-words_fit) _ c.state_at.ensures

pub returns-else-words_fit : goal.returns-else-words_fit
returns-else-words_fit c = no-state c.args.words.now (sym c.words_fit.ensures ∙ c.if-words_fit.false)
