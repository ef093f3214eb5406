-- `asking::ask` asks for the two keys, and reads the text as a plan where it begins with neither.
-- Assumes nothing.
use mathlib.Core.Path.{sym, subst, ◌∙◌}
use Prim.Native.Nat.{◌≤◌}
use lib.ListN.{length}
use borrow.Author.Rules.{rules}
use Rattle.text_keys.proofs.Keys.{key-room}
use Rattle.asking.specs.Questions.{pattern_key}
use Rattle.asking.specs.Answers.{QuestionIs}
use Rattle.asking.proofs.Keys.{pattern-key, mark-key, no_key}
use Rattle.asking.proofs.ask.Goals as goal
use Rattle.asking.proofs.ask.Goals.{Then-has_key}

-- a text with the key of a pattern has as many bytes
inside : (c : Then-has_key) → 8 ≤ length c.args.text.now
inside c = key-room pattern_key _ (sym c.has_key.ensures ∙ c.if-has_key.true)

pub slice_bounds-ask_pattern-count : goal.slice_bounds-ask_pattern-count
slice_bounds-ask_pattern-count c = let h = inside c in search rules

pub slice_bounds-ask_pattern-start : goal.slice_bounds-ask_pattern-start
slice_bounds-ask_pattern-start c = let h = inside c in search rules

pub returns-then-has_key : goal.returns-then-has_key
returns-then-has_key c =
    subst (λ told. QuestionIs told c.ask_pattern.result) (pattern-key _ (sym c.if-has_key.true ∙ c.has_key.ensures)) c.ask_pattern.ensures

pub returns-then-has_key-2 : goal.returns-then-has_key-2
returns-then-has_key-2 c =
    subst (λ told. QuestionIs told c.ask_mark.result)
    (mark-key _ (sym c.if-has_key.false ∙ c.has_key.ensures) (sym c.if-has_key-2.true ∙ c.has_key-2.ensures)) c.ask_mark.ensures

pub returns : goal.returns
returns c =
    subst (λ told. QuestionIs told c.ask_whole.result)
    (no_key _ (sym c.if-has_key.false ∙ c.has_key.ensures) (sym c.if-has_key-2.false ∙ c.has_key-2.ensures)) c.ask_whole.ensures
