-- `line_writer::order_lines::order_text` spells the key and the jacks one after the other. A jack of a byte has at most 3 digits, so there is room.
use native.Mathlib.Omega.{arith}
use borrow.Author.Rules.{rules}
use Rattle.line_format.specs.Format.{swapping, turning, key}
use Rattle.line_writer.proofs.Spelling.{spells-length, spells-swap, spells-turn, digits_8}
use Rattle.line_writer.proofs.order_lines.order_text.Goals as goal

pub and_next-requires : goal.and_next-requires
and_next-requires c =
    omega (arith, spells-length _ (key swapping) _ c.begun.ensures, digits_8 c.in-Swap.a.0 (search rules), digits_8 c.in-Swap.b.0 (search rules))

pub and_next-requires-in-Turn : goal.and_next-requires-in-Turn
and_next-requires-in-Turn c =
    omega (
      arith,
      spells-length _ (key turning) _ c.begun-in-Turn.ensures,
      digits_8 c.in-Turn.a.0 (search rules),
      digits_8 c.in-Turn.b.0 (search rules),
      digits_8 c.in-Turn.c.0 (search rules),
    )

pub and_next-requires-in-Turn-2 : goal.and_next-requires-in-Turn-2
and_next-requires-in-Turn-2 c =
    omega (
      arith,
      c.and_next-in-Turn.ensures.len,
      spells-length _ (key turning) _ c.begun-in-Turn.ensures,
      digits_8 c.in-Turn.a.0 (search rules),
      digits_8 c.in-Turn.b.0 (search rules),
      digits_8 c.in-Turn.c.0 (search rules),
    )

pub returns-in-Swap-clause-text : goal.returns-in-Swap-clause-text
returns-in-Swap-clause-text c = spells-swap _ _ _ _ _ c.in-Swap.is c.begun.ensures c.and_next.ensures

pub returns-in-Swap-clause-room : goal.returns-in-Swap-clause-room
returns-in-Swap-clause-room c = omega (
  arith,
  c.and_next.ensures.len,
  spells-length _ (key swapping) _ c.begun.ensures,
  digits_8 c.in-Swap.a.0 (search rules),
  digits_8 c.in-Swap.b.0 (search rules),
)

pub returns-in-Turn-clause-text : goal.returns-in-Turn-clause-text
returns-in-Turn-clause-text c = spells-turn _ _ _ _ _ _ _ c.in-Turn.is c.begun-in-Turn.ensures c.and_next-in-Turn.ensures c.and_next-in-Turn-2.ensures

pub returns-in-Turn-clause-room : goal.returns-in-Turn-clause-room
returns-in-Turn-clause-room c = omega (
  arith,
  c.and_next-in-Turn-2.ensures.len,
  c.and_next-in-Turn.ensures.len,
  spells-length _ (key turning) _ c.begun-in-Turn.ensures,
  digits_8 c.in-Turn.a.0 (search rules),
  digits_8 c.in-Turn.b.0 (search rules),
  digits_8 c.in-Turn.c.0 (search rules),
)
