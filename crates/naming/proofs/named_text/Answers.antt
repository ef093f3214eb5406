-- `naming::named_text` puts the counts and then the gaps: together they are the text, and there is room for it.
-- Assumes nothing.
use borrow.Author.Rules.{rules}
use Rattle.plan_rules.specs.Planned.{device}
use Rattle.plan_rules.specs.Rules.{Ruled}
use Rattle.plan_rules.proofs.Rules.{ruled}
use Rattle.naming.proofs.Whole.{numbers_fit, Known, counts-room, gaps-there, lines-room, all-put}
use Rattle.naming.proofs.named_text.Goals as goal
use Rattle.naming.proofs.named_text.Goals.{After-put_gaps, Start}

-- the plan is within the rules
in-rules : (c : Start) → Ruled device c.args.ruled.plan
in-rules c = ruled device c.args.ruled.plan (search rules) (search rules) c.args.ruled.ruled

-- what is known once the gaps are there
known : (c : After-put_gaps) → Known c.args.ruled.plan c.count_named-tally.result c.count_of-of.result c.put_gaps.new.out c.args.buf.now
known c =
    record { rules = in-rules c.before.before.before.before.before.before; tally = c.count_named-tally.ensures; size = c.count_of-of.ensures; more = _; gaps = c.put_gaps.ensures; room = c.requires }

pub count_of-of-requires : goal.count_of-of-requires
count_of-of-requires c = (in-rules (goal.at.count_of-of-requires c).Start).fits.many_ports

pub put_gaps-requires : goal.put_gaps-requires
put_gaps-requires c = numbers_fit c.args.ruled.plan (in-rules (goal.at.put_gaps-requires c).Start)

pub put_counts-at-requires : goal.put_counts-at-requires
put_counts-at-requires c = counts-room _ _ _ _ _ (known (goal.at.put_counts-at-requires c).After-put_gaps)

pub put_gap_lines-requires : goal.put_gap_lines-requires
put_gap_lines-requires c =
    let K = known (goal.at.put_gap_lines-requires c).After-put_gaps in
    (gaps-there _ _ _ _ _ K, lines-room _ _ _ _ _ K _ _ c.put_counts-at.ensures)

pub returns-clause-answer : goal.returns-clause-answer
returns-clause-answer c = (all-put _ _ _ _ _ (known (goal.at.returns-clause-answer c).After-put_gaps) _ _ c.put_counts-at.ensures _ _ c.put_gap_lines.ensures).0

pub returns-clause-bytes : goal.returns-clause-bytes
returns-clause-bytes c = (all-put _ _ _ _ _ (known (goal.at.returns-clause-bytes c).After-put_gaps) _ _ c.put_counts-at.ensures _ _ c.put_gap_lines.ensures).1
