-- `dictionary_walk::ports::choose` meets its contract: each turn passes one port over. The loop's invariant: what is left of the number falls among the ports
-- from y on as the number does among all.
-- Assumes nothing.
use mathlib.Core.Path.{◌≡◌, ap, ◌∙◌}
use mathlib.Core.Bool.{false, cond}
use Prim.Native.Nat.{◌+◌, ◌-◌}
use lib.ListN.{get_or}
use Rattle.listing_dictionary.specs.Number.{worth}
use native.Mathlib.Omega.{arith}
use Rattle.dictionary_walk.proofs.Flags.{turn-here, turn_on, turn_last}
use Rattle.dictionary_walk.proofs.ports.choose.Goals as goal
use Rattle.dictionary_walk.proofs.ports.choose.Goals.{After-share_of-share}

-- what the port comes to, by its place
share : (c : After-share_of-share) → c.share_of-share.result
    ≡ cond (get_or c.args.taken.now (c.loop-y.y - 1) false) 0 (worth c.args.shares.early c.args.shares.late c.args.jack (c.loop-y.y - 1 + 1))
share c =
    let port : c.loop-y.y ≡ c.loop-y.y - 1 + 1 = omega arith in
    c.share_of-share.ensures ∙ ap (λ x. cond (get_or c.args.taken.now (c.loop-y.y - 1) false) 0 (worth c.args.shares.early c.args.shares.late c.args.jack x)) port

pub returns-then-rest-share-clause-port : goal.returns-then-rest-share-clause-port
returns-then-rest-share-clause-port c =
    let port : c.loop-y.y ≡ c.loop-y.y - 1 + 1 = omega arith in
    port ∙ (turn-here _ _ _ _ (c.loop-y.y - 1) _ _ c.loop-y.invariant (omega arith) (share (goal.at.returns-then-rest-share-clause-port c).After-share_of-share) c.if-rest-share.true).0

pub returns-then-rest-share-clause-within : goal.returns-then-rest-share-clause-within
returns-then-rest-share-clause-within c = (turn-here _ _ _ _ (c.loop-y.y - 1) _ _ c.loop-y.invariant (omega arith) (share (goal.at.returns-then-rest-share-clause-within c).After-share_of-share) c.if-rest-share.true).1

pub loop-y-preserved : goal.loop-y-preserved
loop-y-preserved c =
    let next : c.loop-y.y + 1 - 1 ≡ c.loop-y.y - 1 + 1 = omega arith in
    rw next (turn_on _ _ _ _ (c.loop-y.y - 1) _ _ c.loop-y.invariant (omega arith) (share (goal.at.loop-y-preserved c).After-share_of-share) c.if-rest-share.false)

pub returns-clause-port : goal.returns-clause-port
returns-clause-port c = (turn_last _ _ _ _ (c.loop-y.y - 1) _ 0 c.loop-y.invariant (omega arith)).0

pub returns-clause-within : goal.returns-clause-within
returns-clause-within c = (turn_last _ _ _ _ (c.loop-y.y - 1) _ 0 c.loop-y.invariant (omega arith)).1
