-- `benches_writing::put_shares`: of the lines of all benches, those of the benches from a number on are still to be put.
use mathlib.Core.Path.{◌≡◌}
use Prim.Native.Nat.{◌+◌, ◌-◌}
use native.Mathlib.Omega.{arith}
use Rattle.line_putting.proofs.Putting.{going-first}
use Rattle.benches_writing.proofs.Shares.{all_short, all_room, line-room, line_on, lines-over}
use Rattle.benches_writing.proofs.put_shares.Goals as goal

pub loop-bench-init : goal.loop-bench-init
loop-bench-init c =
    let all : c.args.benches - 0 ≡ c.args.benches = omega arith in
    rw all (going-first 0 _ _ (all_room _ _ c.requires.0 c.args.buf.now c.requires.1))

pub put_share-at-requires : goal.put_share-at-requires
put_share-at-requires c =
    let L = c.loop-bench in
    line-room _ _ c.requires.0 _ _ L.at L.bench (c.args.benches - L.bench) _ L.invariant (omega arith) (omega arith) _ c.share.ensures

pub loop-bench-preserved : goal.loop-bench-preserved
loop-bench-preserved c =
    let L = c.loop-bench in
    let left : c.args.benches - L.bench - 1 ≡ c.args.benches - (L.bench + 1) = omega arith in
    rw (← left)
    (line_on _ _ c.requires.0 _ _ L.at L.bench (c.args.benches - L.bench) _ L.invariant (omega arith) (omega arith) _ c.share.ensures _ _
    c.put_share-at.ensures)

pub returns-clause-fits : goal.returns-clause-fits
returns-clause-fits c =
    let P = lines-over _ _ c.requires.0 _ _ _ _ _ _ c.loop-bench.invariant (omega arith) in omega (arith, P.place, all_short _ _ c.requires.0)

pub returns-clause-puts : goal.returns-clause-puts
returns-clause-puts c = lines-over _ _ c.requires.0 _ _ _ _ _ _ c.loop-bench.invariant (omega arith)
