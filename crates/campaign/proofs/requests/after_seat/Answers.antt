-- `campaign::requests::after_seat`: the jack after this one is the next to seat, none after the last.
use mathlib.Core.Path.{sym, ◌∙◌}
use Prim.Native.Nat.{suc}
use native.Mathlib.Numerals.{add-one}
use native.Mathlib.Omega.{arith}
use Rattle.listing.proofs.Numbers.{is_same, is-other}
use Rattle.words.specs.declared.Line.TheVariants.{Seat}
use Rattle.words.proofs.Shape.{passes-fits}
use Rattle.campaign.proofs.Tells.{line-leaves-seat}
use Rattle.campaign.proofs.requests.after_seat.Goals as goal
use Rattle.campaign.proofs.requests.after_seat.Goals.{then-j-s, else-j-s}

pub overflow_add-seat : goal.overflow_add-seat
overflow_add-seat c =
    omega (arith, c.requires.0, (passes-fits c.args.s.plan.ports (Seat c.args.j) c.requires.1).1)

pub returns : goal.returns
returns c =
    line-leaves-seat c.args.j c.args.s _
    (elim c.if-j-s.branch [
      | then-j-s w ↦ w.seat-is ∙ sym (is_same c.args.j.0 c.args.s.plan.ports 0 (suc c.args.j.0) w.if-j-s.true)
      | else-j-s w ↦ w.seat-is ∙ add-one c.args.j.0 ∙ sym (is-other c.args.j.0 c.args.s.plan.ports 0 (suc c.args.j.0) w.if-j-s.false)
    ])
