-- `dictionary_walk::rows::add_jack` meets its contract: each turn turns one place of the row into a sum, from the last down. The loop's invariant: the places
-- from k on have the row of one jack more.
-- Assumes nothing.
use mathlib.Core.Path.{◌≡◌}
use Prim.Native.Nat.{◌+◌, ◌-◌}
use native.Mathlib.Omega.{arith}
use Rattle.dictionary_walk.proofs.Between.{between-last, between-down, down_fits}
use Rattle.dictionary_walk.proofs.rows.add_jack.Goals as goal

pub loop-k-init : goal.loop-k-init
loop-k-init c = between-last _ _ _ _ (omega arith) (omega (arith, c.requires.0)) c.count_of.ensures c.requires.1

pub overflow_add-row-in-loop-k : goal.overflow_add-row-in-loop-k
overflow_add-row-in-loop-k c =
    let next : c.loop-k.k - 1 + 1 ≡ c.loop-k.k = omega arith in
    rw next (omega (arith, down_fits _ (c.loop-k.k - 1) _ c.loop-k.row (omega arith) (omega arith) c.requires.0 c.loop-k.invariant))

pub loop-k-preserved : goal.loop-k-preserved
loop-k-preserved c =
    let next : c.loop-k.k - 1 + 1 ≡ c.loop-k.k = omega arith in
    rw next (between-down _ (c.loop-k.k - 1) _ c.loop-k.row (omega arith) (omega arith) c.requires.0 c.loop-k.invariant)
