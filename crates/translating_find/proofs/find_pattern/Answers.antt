-- `translating_find::find_pattern` asks for the three keys in turn.
-- Assumes nothing.
use mathlib.Core.Path.{sym, ap, ◌∙◌}
use Prim.Native.Nat.{◌≤◌}
use lib.ListN.{length}
use borrow.Author.Rules.{rules}
use Rattle.words.specs.Meaning.{refusal_of}
use Rattle.text_keys.proofs.Keys.{key-room}
use Rattle.translating.specs.Names.{rank_key, number_key, pattern_key}
use Rattle.translating_find.proofs.Found.{finds-as, finds-refused}
use Rattle.translating_find.proofs.Keys.{rank-key, number-key, pattern-key, no_key}
use Rattle.translating_find.proofs.find_pattern.Goals as goal
use Rattle.translating_find.proofs.find_pattern.Goals.{Then-has_key, Then-has_key-2, Then-has_key-3}

-- a line with a key has as many bytes as the key
rank-inside : (c : Then-has_key) → 5 ≤ length c.args.t.now
rank-inside c = key-room rank_key _ (sym c.has_key.ensures ∙ c.if-has_key.true)

number-inside : (c : Then-has_key-2) → 7 ≤ length c.args.t.now
number-inside c = key-room number_key _ (sym c.has_key-2.ensures ∙ c.if-has_key-2.true)

pattern-inside : (c : Then-has_key-3) → 8 ≤ length c.args.t.now
pattern-inside c = key-room pattern_key _ (sym c.has_key-3.ensures ∙ c.if-has_key-3.true)

pub slice_bounds-by_rank-count : goal.slice_bounds-by_rank-count
slice_bounds-by_rank-count c = let h = rank-inside c in search rules

pub slice_bounds-by_rank-start : goal.slice_bounds-by_rank-start
slice_bounds-by_rank-start c = let h = rank-inside c in search rules

pub returns-then-has_key-clause-told : goal.returns-then-has_key-clause-told
returns-then-has_key-clause-told c = (finds-as _ _ (rank-key (length c.args.p.now) _ (sym c.if-has_key.true ∙ c.has_key.ensures)) c.args.p.now _ _ (c.by_rank.ensures.told, c.by_rank.ensures.bytes)).0

pub returns-then-has_key-clause-bytes : goal.returns-then-has_key-clause-bytes
returns-then-has_key-clause-bytes c = (finds-as _ _ (rank-key (length c.args.p.now) _ (sym c.if-has_key.true ∙ c.has_key.ensures)) c.args.p.now _ _ (c.by_rank.ensures.told, c.by_rank.ensures.bytes)).1

pub slice_bounds-by_number-count : goal.slice_bounds-by_number-count
slice_bounds-by_number-count c = let h = number-inside c in search rules

pub slice_bounds-by_number-start : goal.slice_bounds-by_number-start
slice_bounds-by_number-start c = let h = number-inside c in search rules

pub returns-then-has_key-2-clause-told : goal.returns-then-has_key-2-clause-told
returns-then-has_key-2-clause-told c = (finds-as _ _ (number-key (length c.args.p.now) _ (sym c.if-has_key.false ∙ c.has_key.ensures) (sym c.if-has_key-2.true ∙ c.has_key-2.ensures))
    c.args.p.now _ _ (c.by_number.ensures.told, c.by_number.ensures.bytes)).0

pub returns-then-has_key-2-clause-bytes : goal.returns-then-has_key-2-clause-bytes
returns-then-has_key-2-clause-bytes c = (finds-as _ _ (number-key (length c.args.p.now) _ (sym c.if-has_key.false ∙ c.has_key.ensures) (sym c.if-has_key-2.true ∙ c.has_key-2.ensures))
    c.args.p.now _ _ (c.by_number.ensures.told, c.by_number.ensures.bytes)).1

pub slice_bounds-by_entries-count : goal.slice_bounds-by_entries-count
slice_bounds-by_entries-count c = let h = pattern-inside c in search rules

pub slice_bounds-by_entries-start : goal.slice_bounds-by_entries-start
slice_bounds-by_entries-start c = let h = pattern-inside c in search rules

pub returns-then-has_key-3-clause-told : goal.returns-then-has_key-3-clause-told
returns-then-has_key-3-clause-told c = (finds-as _ _
    (pattern-key (length c.args.p.now) _ (sym c.if-has_key.false ∙ c.has_key.ensures) (sym c.if-has_key-2.false ∙ c.has_key-2.ensures)
    (sym c.if-has_key-3.true ∙ c.has_key-3.ensures))
    c.args.p.now _ _ (c.by_entries.ensures.told, c.by_entries.ensures.bytes)).0

pub returns-then-has_key-3-clause-bytes : goal.returns-then-has_key-3-clause-bytes
returns-then-has_key-3-clause-bytes c = (finds-as _ _
    (pattern-key (length c.args.p.now) _ (sym c.if-has_key.false ∙ c.has_key.ensures) (sym c.if-has_key-2.false ∙ c.has_key-2.ensures)
    (sym c.if-has_key-3.true ∙ c.has_key-3.ensures))
    c.args.p.now _ _ (c.by_entries.ensures.told, c.by_entries.ensures.bytes)).1

pub returns-clause-told : goal.returns-clause-told
returns-clause-told c = (finds-refused _ c.args.p.now _ _
    (ap refusal_of c.nowhere.ensures
    ∙ no_key (length c.args.p.now) _ (sym c.if-has_key.false ∙ c.has_key.ensures) (sym c.if-has_key-2.false ∙ c.has_key-2.ensures)
    (sym c.if-has_key-3.false ∙ c.has_key-3.ensures))).0

pub returns-clause-bytes : goal.returns-clause-bytes
returns-clause-bytes c = (finds-refused _ c.args.p.now _ _
    (ap refusal_of c.nowhere.ensures
    ∙ no_key (length c.args.p.now) _ (sym c.if-has_key.false ∙ c.has_key.ensures) (sym c.if-has_key-2.false ∙ c.has_key-2.ensures)
    (sym c.if-has_key-3.false ∙ c.has_key-3.ensures))).1
