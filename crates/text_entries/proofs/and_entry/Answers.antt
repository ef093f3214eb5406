-- `text_entries::and_entry`: the entry goes into the first free place, and where there is none, that there are more is noted.
-- Assumes nothing.
use Rattle.text_entries.proofs.Places.{held_more}
use Rattle.text_entries.proofs.and_entry.Goals as goal

pub returns-then-held-lt-LONGEST : goal.returns-then-held-lt-LONGEST
returns-then-held-lt-LONGEST c ns H = held_more ns _ H _ _ c.entry_byte.ensures c.if-held-lt-LONGEST.true
