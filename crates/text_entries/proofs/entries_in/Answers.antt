-- `text_entries::entries_in`: the entries read so far are held, and with those that the text from `at` on is they are all. Each turn passes a comma.
-- Assumes nothing.
use mathlib.Core.Path.{sym, ap, subst, ◌∙◌}
use Rattle.listing.specs.Limits.{largest64}
use Rattle.words.specs.Meaning.{refusal_of}
use Rattle.text_entries.specs.Pieces.{entry_is, EntryWithin, EntriesIs}
use Rattle.text_entries.proofs.Places.{entry-bad, entry-last, entry_more}
use Rattle.text_entries.proofs.entries_in.Goals as goal

pub returns-in-Bad : goal.returns-in-Bad
returns-in-Bad c =
    ap refusal_of c.nowhere.ensures ∙ entry-bad _ _ _ c.loop-n.invariant.1 (sym (ap (entry_is largest64 _) c.in-Bad.is) ∙ c.entry_at.ensures.entries)

pub returns-in-Last : goal.returns-in-Last
returns-in-Last c =
    subst (λ told. EntriesIs told c.counted.result)
    (entry-last _ _ _ c.loop-n.invariant.1 _ (sym (ap (entry_is largest64 _) c.in-Last.is) ∙ c.entry_at.ensures.entries))
    (c.counted.ensures _ (c.and_entry.ensures _ c.loop-n.invariant.1.held))

pub loop-n-preserved : goal.loop-n-preserved
loop-n-preserved c = (
  (subst (EntryWithin _ _) c.in-More.is c.entry_at.ensures.within).1,
  entry_more _ _ _ c.loop-n.invariant.1 _ _ _ (c.and_entry-held.ensures _ c.loop-n.invariant.1.held) (sym (ap (entry_is largest64 _) c.in-More.is) ∙ c.entry_at.ensures.entries),
)
