-- `dictionary_walk::ports::pass_over` meets its contract: each turn adds what one port comes to. The loop's invariant: the sum is what the first y ports come to.
-- Assumes nothing.
use mathlib.Core.Path.{◌≡◌, refl, ap, ◌∙◌}
use mathlib.Core.Bool.{false, cond}
use Prim.Native.Nat.{◌+◌, ◌-◌, ◌≤◌}
use lib.ListN.{get_or}
use native.Mathlib.Omega.{arith}
use Rattle.listing_dictionary.specs.Number.{worth}
use Rattle.listing_dictionary.proofs.Walk.{total}
use Rattle.dictionary_walk.specs.Free.{frees}
use Rattle.dictionary_walk.proofs.Flags.{total-turn}
use Rattle.dictionary_walk.proofs.ports.pass_over.Goals as goal
use Rattle.dictionary_walk.proofs.ports.pass_over.Goals.{After-share_of-sum}

-- a turn, by the place of its port
turn : (c : After-share_of-sum) → (c.loop-y.sum + c.share_of-sum.result ≡ total (worth c.args.shares.early c.args.shares.late c.args.jack) (frees c.args.taken.now 0 (c.loop-y.y + 1 - 1)))
    × (c.loop-y.sum + c.share_of-sum.result ≤ total (worth c.args.shares.early c.args.shares.late c.args.jack) (frees c.args.taken.now 0 (c.args.port - 1)))
turn c =
    let y = c.loop-y.y - 1 in
    let port : c.loop-y.y ≡ y + 1 = omega arith in
    let next : c.loop-y.y + 1 - 1 ≡ y + 1 = omega arith in
    let share = c.share_of-sum.ensures ∙ ap (λ x. cond (get_or c.args.taken.now y false) 0 (worth c.args.shares.early c.args.shares.late c.args.jack x)) port in
    rw next (total-turn _ _ y (c.args.port - 1) _ _ c.loop-y.invariant.1 share (omega arith))

pub loop-y-init : goal.loop-y-init
unfolding total frees
loop-y-init c = (omega arith, refl)

pub overflow_add-sum : goal.overflow_add-sum
overflow_add-sum c = omega (arith, (turn (goal.at.overflow_add-sum c).After-share_of-sum).1, c.requires.1)

pub loop-y-preserved : goal.loop-y-preserved
loop-y-preserved c = (omega arith, (turn (goal.at.loop-y-preserved c).After-share_of-sum).0)

pub returns : goal.returns
returns c = let end : c.loop-y.y - 1 ≡ c.args.port - 1 = omega arith in rw end at c.loop-y.invariant.1
