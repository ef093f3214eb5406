-- `benches_writing::put_no_plan`: the line at the front, for which there is room.
use native.Mathlib.Omega.{arith}
use Rattle.benches_writing.proofs.Shares.{none-most}
use Rattle.benches_writing.proofs.put_no_plan.Goals as goal

pub put_none-requires : goal.put_none-requires
put_none-requires c = omega (arith, c.requires, none-most c.args.bench (omega (arith, c.ranges)))

pub returns-clause-fits : goal.returns-clause-fits
returns-clause-fits c = omega (arith, c.put_none.ensures.place, none-most c.args.bench (omega (arith, c.ranges)))
