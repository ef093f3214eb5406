-- `face_state::words_fit`: the words passed so far are within their limits.
-- Assumes nothing.
use mathlib.Core.Path.{sym}
use native.Mathlib.Omega.{arith}
use Rattle.face_state.specs.States.{limits}
use Rattle.face_state.proofs.Within.{all-within, not-as-many, one-above}
use Rattle.face_state.proofs.words_fit.Goals as goal

pub returns-then-words-ne-STATE_WORDS : goal.returns-then-words-ne-STATE_WORDS
returns-then-words-ne-STATE_WORDS c = sym (not-as-many c.args.words.now limits c.if-words-ne-STATE_WORDS.true)

pub returns-then-limit_of-words : goal.returns-then-limit_of-words
returns-then-limit_of-words c =
    sym (one-above c.args.words.now limits c.loop-at.at c.loop-at-test.true (rw c.limit_of.ensures at c.if-limit_of-words.true))

pub returns : goal.returns
returns c =
    sym (all-within c.args.words.now limits (omega arith) (λ k h. c.loop-at.invariant.1 k (omega arith)))
