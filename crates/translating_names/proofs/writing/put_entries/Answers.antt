-- `translating_names::writing::put_entries` puts the first entry, and then the others with their commas.
-- Assumes nothing.
use borrow.Author.Rules.{rules}
use Rattle.translating_names.proofs.Entries.{first-room, rest-room, all-entries}
use Rattle.translating_names.proofs.writing.put_entries.Goals as goal

pub put_number-rest-requires : goal.put_number-rest-requires
put_number-rest-requires c = (search rules, first-room _ _ c.args.buf.now c.requires.0 c.requires.1)

pub put_rest-requires : goal.put_rest-requires
put_rest-requires c =
    rest-room _ _ _ c.requires.0 c.requires.1 _ _ c.put_number-rest.ensures

pub returns : goal.returns
returns c =
    all-entries _ _ _ c.requires.0 c.requires.1 _ _ c.put_number-rest.ensures _ _ c.put_rest.ensures
