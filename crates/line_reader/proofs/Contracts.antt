-- What the contract of the call says, in the definitions that the laws speak of. A clause that is lost or weakened is missed here.
-- Assumes nothing.
use mathlib.Core.Path.{◌≡◌}
use Rattle.listing.specs.Limits.{most_ports, largest64}
use Rattle.words.specs.Contract.{Says}
use Rattle.line_format.specs.Reading.{read_of}
use Rattle.line_reader.specs.Answers.{read_told}
use Rattle.line_reader.proofs.order_lines.read_line.Reads as read-line

-- read_line(text: &[u8], place: usize) -> ReadLine
pub read-line-says : Says read-line.Learnt (λ κs (text, (place, _)) r e. read_told r ≡ read_of largest64 most_ports text.now place)
read-line-says κs a r e h = h
