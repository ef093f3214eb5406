-- `show::put_ends`: the number of a leg's last mark is one of 64 bits, and its rank one of the list.
-- Assumes nothing.
use borrow.Author.Rules.{rules}
use Rattle.showing.proofs.Ruled.{last-asked, last-number}
use Rattle.show.proofs.put_ends.Goals as goal

pub rank_along-last-requires : goal.rank_along-last-requires
rank_along-last-requires c = last-asked c.args.ruled.plan (search rules) (search rules) c.args.ruled.ruled c.args.i c.requires _ c.leg_at-l.ensures

pub overflow_add-number : goal.overflow_add-number
overflow_add-number c =
    let h =
    last-number c.args.ruled.plan (search rules) (search rules) c.args.ruled.ruled c.args.i c.requires _ c.leg_at-l.ensures _ c.marks_before-number.ensures in
    search rules
