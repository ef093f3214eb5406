-- `naming::put_gap_lines`: of the lines of all gaps, those of the gaps from number k on are still to be put.
-- Assumes nothing.
use mathlib.Core.Path.{◌≡◌}
use Prim.Native.Nat.{◌+◌, ◌-◌, ◌*◌}
use native.Mathlib.Omega.{arith}
use Rattle.naming.proofs.Gaps.{gap-room, gap-on, gaps-over}
use Rattle.naming.proofs.put_gap_lines.Goals as goal

pub put_gap-at-requires : goal.put_gap-at-requires
put_gap-at-requires c = let L = c.loop-k in gap-room _ _ _ L.at _ (2 * L.k) (c.args.many - L.k) L.buf L.invariant (omega arith)

pub loop-k-preserved : goal.loop-k-preserved
loop-k-preserved c =
    let L = c.loop-k in
    let next : 2 * L.k + 2 ≡ 2 * (L.k + 1) = omega arith in
    let left : c.args.many - L.k - 1 ≡ c.args.many - (L.k + 1) = omega arith in
    rw (← next, ← left) (gap-on _ _ _ L.at _ (2 * L.k) (c.args.many - L.k) L.buf L.invariant (omega arith) _ _ c.put_gap-at.ensures)

pub returns : goal.returns
returns c = let L = c.loop-k in gaps-over _ _ _ L.at _ (2 * L.k) (c.args.many - L.k) L.buf L.invariant (omega arith)
