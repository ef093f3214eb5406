-- What the contract of the call says, in the definitions that the laws speak of. A clause that is lost or weakened is missed here.
-- Assumes nothing.
use mathlib.Core.Path.{◌≡◌}
use Rattle.listing.specs.Limits.{most_ports}
use Rattle.words.specs.Contract.{Says}
use Rattle.line_format.specs.Calls.{write_of, write_bytes}
use Rattle.line_writer.specs.Answers.{written_told}
use Rattle.line_writer.proofs.order_lines.write_line.Reads as write-line

-- write_line(line: Line, buf: &mut [u8]) -> Written
pub write-line-says : Says write-line.Learnt
    (λ κs (line, (buf, _)) r (_, (left, _)). (written_told r ≡ write_of most_ports line buf.now) × (left.now ≡ write_bytes most_ports line buf.now))
write-line-says κs a r e h = h
