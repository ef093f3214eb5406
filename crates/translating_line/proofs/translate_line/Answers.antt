-- `translating_line::translate_line` looks at the length, at the key of ports, at whether there are any ports, and then for a pattern.
-- Assumes nothing.
use mathlib.Core.Path.{sym, ap, ◌∙◌}
use Prim.Native.Nat.{◌≤◌}
use lib.ListN.{length}
use borrow.Author.Rules.{rules}
use Rattle.words.specs.Meaning.{refusal_of}
use Rattle.text_keys.proofs.Keys.{key-room}
use Rattle.line_format.specs.Calls.{over}
use Rattle.translating.specs.Lines.{ports_key}
use Rattle.translating_line.proofs.Answers.{goes-as, goes-refused}
use Rattle.translating_line.proofs.Ports.{ports-silent}
use Rattle.translating_line.proofs.Keys.{long-line, ports-key, no-ports, names-line}
use Rattle.translating_line.proofs.translate_line.Goals as goal
use Rattle.translating_line.proofs.translate_line.Goals.{Then-has_key}

-- a line with the key of ports has as many bytes
inside : (c : Then-has_key) → 6 ≤ length c.args.t.now
inside c = key-room ports_key _ (sym c.has_key.ensures ∙ c.if-has_key.true)

pub returns-then-t-gt-LINE_BYTES : goal.returns-then-t-gt-LINE_BYTES
returns-then-t-gt-LINE_BYTES c =
    let long = ap refusal_of c.nowhere.ensures ∙ long-line c.args.ports _ c.if-t-gt-LINE_BYTES.true in
    let goes = goes-refused _ c.args.out.now _ _ long in
    record { told = goes.0; bytes = goes.1 }

pub slice_bounds-ports_line-count : goal.slice_bounds-ports_line-count
slice_bounds-ports_line-count c = let h = inside c in search rules

pub slice_bounds-ports_line-start : goal.slice_bounds-ports_line-start
slice_bounds-ports_line-start c = let h = inside c in search rules

pub returns-then-has_key : goal.returns-then-has_key
returns-then-has_key c =
    let keyed = ports-key c.args.ports _ c.if-t-gt-LINE_BYTES.false (sym c.if-has_key.true ∙ c.has_key.ensures) in
    let silent = sym (ap (λ u. over u c.args.out.now) (ports-silent _)) in
    let goes = goes-as _ _ keyed c.args.out.now _ _ (c.ports_line.ensures, silent) in
    record { told = goes.0; bytes = goes.1 }

pub returns-then-ports-eq0 : goal.returns-then-ports-eq0
returns-then-ports-eq0 c =
    let none = no-ports c.args.ports _ c.if-t-gt-LINE_BYTES.false (sym c.if-has_key.false ∙ c.has_key.ensures) c.if-ports-eq0.true in
    let goes = goes-refused _ c.args.out.now _ _ (ap refusal_of c.nowhere-then-ports-eq0.ensures ∙ none) in
    record { told = goes.0; bytes = goes.1 }

pub returns : goal.returns
returns c =
    let named = names-line c.args.ports _ c.if-t-gt-LINE_BYTES.false (sym c.if-has_key.false ∙ c.has_key.ensures) c.if-ports-eq0.false in
    let goes = goes-as _ _ named c.args.out.now _ _ (c.name_line.ensures.told, c.name_line.ensures.bytes) in
    record { told = goes.0; bytes = goes.1 }
