-- What the contract of each call says, as a law over the contract itself: the line, the entries and the first bad one are those of the text.
-- Assumes nothing.
use mathlib.Core.Path.{◌≡◌}
use Rattle.listing.specs.Limits.{largest64}
use Rattle.words.specs.Contract.{Says}
use Rattle.text_entries.specs.Entries.{one_line, entries_of, bad_entry}
use Rattle.text_entries.specs.Pieces.{EntriesIs, line_is, LineWithin}
use Rattle.text_entries.proofs.one_line.Reads as one-line
use Rattle.text_entries.proofs.entries_in.Reads as entries-in
use Rattle.text_entries.proofs.bad_entry.Reads as bad-entry

pub one-line-says : Says one-line.Learnt (λ κs (t, _) r e. (line_is t.now r ≡ one_line t.now) × LineWithin t.now r)
one-line-says κs a r e h = h

pub entries-in-says : Says entries-in.Learnt (λ κs (t, _) r e. EntriesIs (entries_of t.now) r)
entries-in-says κs a r e h = h

pub bad-entry-says : Says bad-entry.Learnt (λ κs (t, _) r e. r ≡ bad_entry largest64 t.now)
bad-entry-says κs a r e h = h
