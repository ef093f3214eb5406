-- `plan_facts::run_line` spells the magnitude after a key with `-` where the run goes back, and without it where it goes on.
-- Assumes nothing.
use Rattle.plan_facts.proofs.Spelled.{run-back, run_on}
use Rattle.plan_facts.proofs.run_line.Goals as goal

pub returns-then-run : goal.returns-then-run
returns-then-run c = run-back c.args.run _ c.if-run.true c.number_line.ensures

pub returns-else-run : goal.returns-else-run
returns-else-run c = run_on c.args.run _ c.if-run.false c.number_line-else-run.ensures
