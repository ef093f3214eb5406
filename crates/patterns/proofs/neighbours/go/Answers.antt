-- `patterns::neighbours::go` makes the one move to the pattern beside, and on a refusal leaves the slice as it was.
-- The course of the accepted pattern gives the move; carried out, it makes the pattern of the rank beside.
use mathlib.Core.Path.{◌≡◌, ap, ◌∙◌}
use lib.ListN.{length}
use Rattle.listing.specs.Limits.{most_ports}
use Rattle.listing.specs.Rank.{rank}
use Rattle.listing.specs.Orders.{moved}
use Rattle.listing.specs.Neighbours.{move_beside}
use Rattle.words.specs.Told.{accepted}
use Rattle.words.specs.Meaning.{move_of}
use Rattle.pattern_check.proofs.Passed.{passed-on}
use Rattle.pattern_check.proofs.Accepted.{accepted-pattern}
use Rattle.patterns.proofs.Accepted.{goes, beside-refused, beside-accepted}
use Rattle.patterns.proofs.neighbours.go.Goals as goal
use Rattle.patterns.proofs.neighbours.go.Goals.{After-move_beside-m}

-- the move that was found is the one beside the rank of the pattern that the check took in
move-is : (c : After-move_beside-m) → move_of c.move_beside-m.result ≡ move_beside (length c.args.p.now) c.args.back (rank (length c.args.p.now) c.args.p.now)
move-is c = let t = c.in_ok-taken.ensures.taken in rw (t.1, t.0) at c.move_beside-m.ensures

pub returns-in_err-taken-clause-answer : goal.returns-in_err-taken-clause-answer
returns-in_err-taken-clause-answer c =
    passed-on _ _ _ c.from_residual.ensures.1 ∙ (beside-refused most_ports c.args.back _ _ _ c.in_err-taken.ensures.answer).0

pub returns-in_err-taken-clause-bytes : goal.returns-in_err-taken-clause-bytes
returns-in_err-taken-clause-bytes c = (beside-refused most_ports c.args.back _ _ _ c.in_err-taken.ensures.answer).1

pub move_beside-m-requires : goal.move_beside-m-requires
move_beside-m-requires c = rw c.in_ok-taken.ensures.taken.0 (accepted-pattern most_ports _ c.in_ok-taken.ensures.answer).low

pub carry_move-requires : goal.carry_move-requires
carry_move-requires c =
    let sound = c.in_ok-taken.ensures.answer in
    rw (move-is (goal.at.carry_move-requires c).After-move_beside-m) (goes most_ports _ sound c.args.back).form

pub returns-clause-answer : goal.returns-clause-answer
returns-clause-answer c =
    let sound = c.in_ok-taken.ensures.answer in
    let told = beside-accepted most_ports c.args.p.now sound c.args.back in
    ap accepted (move-is (goal.at.returns-clause-answer c).After-move_beside-m) ∙ told.0

pub returns-clause-bytes : goal.returns-clause-bytes
returns-clause-bytes c =
    let sound = c.in_ok-taken.ensures.answer in
    let told = beside-accepted most_ports c.args.p.now sound c.args.back in
    c.carry_move.ensures ∙ ap (λ w. moved w c.args.p.now) (move-is (goal.at.returns-clause-bytes c).After-move_beside-m) ∙ told.1
