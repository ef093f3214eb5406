-- `translating_names::writing::write_names` puts each part of the line behind the one before.
-- Assumes nothing.
use borrow.Author.Rules.{rules}
use Rattle.translating_names.proofs.Written.{rank_room, number-room, key-room, entries-room, newline-room, names-put}
use Rattle.translating_names.proofs.writing.write_names.Goals as goal

pub put_number-second-requires : goal.put_number-second-requires
put_number-second-requires c = (search rules, rank_room _ c.args.out.now c.requires.1)

pub put_number-third-requires : goal.put_number-third-requires
put_number-third-requires c =
    (search rules, number-room _ _ c.requires.1 _ _ c.put_number-second.ensures)

pub put_text-entries-requires : goal.put_text-entries-requires
put_text-entries-requires c =
    key-room _ _ c.requires.1 _ _ c.put_number-second.ensures _ _ c.put_number-third.ensures

pub put_entries-end-requires : goal.put_entries-end-requires
put_entries-end-requires c =
    (c.requires.0, entries-room _ _ c.requires.1 _ _ c.put_number-second.ensures _ _ c.put_number-third.ensures _ _ c.put_text-entries.ensures)

pub put_text-requires : goal.put_text-requires
put_text-requires c =
    newline-room _ _ c.requires.1 _ _ c.put_number-second.ensures _ _ c.put_number-third.ensures _ _ c.put_text-entries.ensures _ _ c.put_entries-end.ensures

pub returns-clause-answer : goal.returns-clause-answer
returns-clause-answer c = (names-put _ _ c.requires.1 _ _ c.put_number-second.ensures _ _ c.put_number-third.ensures _ _ c.put_text-entries.ensures _ _ c.put_entries-end.ensures _ _
    c.put_text.ensures).0

pub returns-clause-bytes : goal.returns-clause-bytes
returns-clause-bytes c = (names-put _ _ c.requires.1 _ _ c.put_number-second.ensures _ _ c.put_number-third.ensures _ _ c.put_text-entries.ensures _ _ c.put_entries-end.ensures _ _
    c.put_text.ensures).1
