-- `line_writer::order_lines::write_line` refuses a line that does not fit, and else writes the text of the line.
use mathlib.Core.Path.{sym, ap, ◌∙◌}
use Rattle.listing.specs.Limits.{most_ports}
use Rattle.line_format.specs.Format.{line_text}
use Rattle.line_format.specs.Calls.{room_of, room_bytes}
use Rattle.line_format.proofs.Written.{write-unfit}
use Rattle.line_writer.specs.Answers.{Spells}
use Rattle.line_writer.proofs.Spelling.{spells-line, spelled-told}
use Rattle.line_writer.proofs.order_lines.write_line.Goals as goal
use Rattle.line_writer.proofs.order_lines.write_line.Goals.{After-and_part}

-- the line is spelled with its newline
spelt : (c : After-and_part) → Spells c.and_part.result (line_text c.args.line)
spelt c = spells-line c.line_text.result c.and_part.result c.args.line c.line_text.ensures.text c.and_part.ensures

pub returns-then-not-fits-clause-answer : goal.returns-then-not-fits-clause-answer
returns-then-not-fits-clause-answer c = rw c.nowhere.ensures ((write-unfit most_ports c.args.line c.args.buf.now (sym c.if-not-fits.ensures)).0)

pub returns-then-not-fits-clause-bytes : goal.returns-then-not-fits-clause-bytes
returns-then-not-fits-clause-bytes c = (write-unfit most_ports c.args.line c.args.buf.now (sym c.if-not-fits.ensures)).1

pub returns-clause-answer : goal.returns-clause-answer
returns-clause-answer c =
    let told = spelled-told most_ports c.args.line c.args.buf.now c.and_part.result (sym c.if-not-fits.ensures) (spelt (goal.at.returns-clause-answer c).After-and_part) in
    c.write_text.ensures.answer ∙ ap (λ t. room_of t c.args.buf.now) c.as_bytes.ensures ∙ told.0

pub returns-clause-bytes : goal.returns-clause-bytes
returns-clause-bytes c =
    let told = spelled-told most_ports c.args.line c.args.buf.now c.and_part.result (sym c.if-not-fits.ensures) (spelt (goal.at.returns-clause-bytes c).After-and_part) in
    c.write_text.ensures.bytes ∙ ap (λ t. room_bytes t c.args.buf.now) c.as_bytes.ensures ∙ told.1
