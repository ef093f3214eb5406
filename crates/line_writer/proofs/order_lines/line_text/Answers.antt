-- `line_writer::order_lines::line_text` spells the key and the numbers. A jack has at most 3 digits and a number of 64 bits at most 20, so there is room.
use native.Mathlib.Omega.{arith}
use borrow.Author.Rules.{rules}
use Rattle.text_numbers.proofs.Lengths.{digits-64}
use Rattle.line_format.specs.Format.{seating, marking, ending, key}
use Rattle.line_writer.proofs.Spelling.{spells-length, spells-seat, spells-mark, spells-end, digits_8}
use Rattle.line_writer.proofs.order_lines.line_text.Goals as goal

pub and_next-requires : goal.and_next-requires
and_next-requires c =
    omega (arith, spells-length _ (key marking) _ c.begun-in-Mark.ensures, digits-64 c.in-Mark.number (search rules), digits-64 c.in-Mark.rank (search rules))

pub returns-in-Seat-clause-text : goal.returns-in-Seat-clause-text
returns-in-Seat-clause-text c = spells-seat _ _ _ c.in-Seat.is c.begun.ensures

pub returns-in-Seat-clause-room : goal.returns-in-Seat-clause-room
returns-in-Seat-clause-room c = omega (arith, spells-length _ (key seating) _ c.begun.ensures, digits_8 c.in-Seat.jack.0 (search rules))

pub returns-in-Mark-clause-text : goal.returns-in-Mark-clause-text
returns-in-Mark-clause-text c = spells-mark _ _ _ _ _ c.in-Mark.is c.begun-in-Mark.ensures c.and_next.ensures

pub returns-in-Mark-clause-room : goal.returns-in-Mark-clause-room
returns-in-Mark-clause-room c = omega (
  arith,
  c.and_next.ensures.len,
  spells-length _ (key marking) _ c.begun-in-Mark.ensures,
  digits-64 c.in-Mark.number (search rules),
  digits-64 c.in-Mark.rank (search rules),
)

pub returns-in-End-clause-text : goal.returns-in-End-clause-text
returns-in-End-clause-text c = spells-end _ _ _ c.in-End.is c.begun-in-End.ensures

pub returns-in-End-clause-room : goal.returns-in-End-clause-room
returns-in-End-clause-room c = omega (arith, spells-length _ (key ending) _ c.begun-in-End.ensures, digits-64 c.in-End.marks (search rules))
