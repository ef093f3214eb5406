-- `naming::put_counts` puts each number behind the one before.
-- Assumes nothing.
use borrow.Author.Rules.{rules}
use Rattle.naming.proofs.Counts.{named-room, of_room, gaps-room, counts-put}
use Rattle.naming.proofs.put_counts.Goals as goal

pub put_line-first-requires : goal.put_line-first-requires
put_line-first-requires c =
    (search rules, named-room c.args.named c.args.of c.args.gaps c.args.buf.now c.requires)

pub put_line-second-requires : goal.put_line-second-requires
put_line-second-requires c =
    (search rules, of_room c.args.named c.args.of c.args.gaps c.args.buf.now c.requires _ _ c.put_line-first.ensures)

pub put_line-requires : goal.put_line-requires
put_line-requires c =
    (search rules, gaps-room c.args.named c.args.of c.args.gaps c.args.buf.now c.requires _ _ c.put_line-first.ensures _ _ c.put_line-second.ensures)

pub returns : goal.returns
returns c =
    counts-put c.args.named c.args.of c.args.gaps c.args.buf.now c.requires _ _ c.put_line-first.ensures _ _ c.put_line-second.ensures _ _ c.put_line.ensures
