-- `line_reader::order_lines::seated` asks whether the number is one of 1 to 20.
use native.Mathlib.Omega.{arith}
use Rattle.listing.specs.Limits.{most_ports}
use Rattle.words.specs.Meaning.{jack_at}
use Rattle.words.specs.declared.Line.TheVariants.{Seat}
use Rattle.words.proofs.Shape.{among_one}
use Rattle.line_reader.proofs.Reader.{fit-good, unfit}
use Rattle.line_reader.proofs.order_lines.seated.Goals as goal
use Rattle.line_reader.proofs.order_lines.seated.Goals.{else-jack-ge1-via-then-jack-ge1+else-jack-le-MOST_JACKS, else-jack-ge1-via-else-jack-ge1}

pub returns-then-jack-le-MOST_JACKS : goal.returns-then-jack-le-MOST_JACKS
returns-then-jack-le-MOST_JACKS c =
    fit-good most_ports (Seat (jack_at c.args.jack)) (among_one most_ports c.args.jack (c.if-jack-ge1.true, c.if-jack-le-MOST_JACKS.true))

pub returns-else-jack-ge1 : goal.returns-else-jack-ge1
returns-else-jack-ge1 c =
    elim c.else-jack-ge1.branch [
      | else-jack-ge1-via-then-jack-ge1+else-jack-le-MOST_JACKS w ↦ unfit most_ports (Seat (jack_at c.args.jack)) (λ h. omega (arith, h.1, w.if-jack-le-MOST_JACKS.false))
      | else-jack-ge1-via-else-jack-ge1 w ↦ unfit most_ports (Seat (jack_at c.args.jack)) (λ h. omega (arith, h.0, w.if-jack-ge1.false))
    ]
