-- `pattern_steps::steps::port_by_b` meets its contract: i at the last jack, the last port at jack i, else what t has at the lowered jack, raised.
-- Assumes nothing.
use mathlib.Core.Path.{◌≡◌, sym, ap, ◌∙◌}
use Prim.Native.Nat.{suc, ◌+◌, ◌≤◌}
use native.Mathlib.Omega.{arith}
use Rattle.listing.specs.Numbers.{Among, raise, lower}
use Rattle.listing.specs.Pattern.{entry}
use Rattle.listing.proofs.Numbers.{either, is_same, is-other, lower-among, lower-cases}
use Rattle.listing.proofs.Panels.{entry-below}
use Rattle.pattern_steps.proofs.steps.port_by_b.Goals as goal
use Rattle.pattern_steps.proofs.steps.port_by_b.Goals.{After-lowered}

-- the jack that the port comes from is one of m, and none above j
from : (c : After-lowered) → Among c.args.m c.lowered.result × (c.lowered.result ≤ c.args.j)
from c =
    let low : lower c.args.i c.args.j ≤ c.args.j = either (lower-cases c.args.i c.args.j) (λ d. omega arith) (λ d. omega arith) in
    let among = lower-among c.args.m c.args.i c.args.j c.requires.2 (omega arith) c.if-j-i.false in
    rw c.lowered.ensures (among, low)

pub returns-then-j-n : goal.returns-then-j-n
returns-then-j-n c = sym (is_same c.args.j _ c.args.i _ (omega arith))

pub returns-then-j-i : goal.returns-then-j-i
returns-then-j-i c =
    let n : c.args.m + 2 ≡ suc (suc c.args.m) = omega arith in
    n ∙ sym (is-other c.args.j _ c.args.i _ (omega arith) ∙ is_same c.args.j c.args.i _ _ c.if-j-i.true)

pub overflow_sub-lowered : goal.overflow_sub-lowered
overflow_sub-lowered c = omega (arith, from c)

pub bounds-t-lowered : goal.bounds-t-lowered
bounds-t-lowered c = omega (arith, from (goal.at.bounds-t-lowered c).After-lowered)

pub raised-requires : goal.raised-requires
raised-requires c =
    let f = from (goal.at.raised-requires c).After-lowered in
    rw (entry-below c.args.t.now c.lowered.result f.0.0) (c.requires.4 c.lowered.result f.1 f.0.1)

pub returns-else-j-i : goal.returns-else-j-i
returns-else-j-i c =
    c.raised.ensures ∙ ap (raise c.args.i) (entry-below c.args.t.now c.lowered.result (from (goal.at.returns-else-j-i c).After-lowered).0.0 ∙ ap (entry c.args.t.now) c.lowered.ensures)
    ∙ sym (is-other c.args.j _ c.args.i _ (omega arith) ∙ is-other c.args.j c.args.i _ _ c.if-j-i.false)
