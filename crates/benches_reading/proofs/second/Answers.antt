-- `benches_reading::second`: the second number is there and not the last, or there are no three.
use mathlib.Core.Path.{subst, ◌∙◌}
use mathlib.Core.List.{[], ◌∷◌}
use Rattle.listing.specs.Limits.{largest64}
use Rattle.text_entries.specs.Pieces.{EntryOf}
use Rattle.benches_text.proofs.Three.{after-bad, after_last, after_more}
use Rattle.benches_reading.proofs.second.Goals as goal

pub returns-in-Bad : goal.returns-in-Bad
returns-in-Bad c = after-bad _ _ (subst (EntryOf largest64 _ _) c.in-Bad.is c.entry_at.ensures).entries

pub returns-in-Last : goal.returns-in-Last
returns-in-Last c = after_last _ _ _ (subst (EntryOf largest64 _ _) c.in-Last.is c.entry_at.ensures).entries

pub returns-in-More : goal.returns-in-More
returns-in-More c =
    let E = subst (EntryOf largest64 _ _) c.in-More.is c.entry_at.ensures in
    c.third.ensures ∙ after_more (_ ∷ []) _ _ _ E.entries
