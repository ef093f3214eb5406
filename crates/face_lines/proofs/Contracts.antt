-- What the contract of each call for C says, its number, the words of its answer and each lent slice, in the definitions that the laws speak of. A clause that
-- is lost or weakened is missed here.
-- Assumes nothing.
use mathlib.Core.List.{[], ◌∷◌}
use Rattle.listing.specs.Limits.{most_ports, largest64}
use Rattle.words.specs.Contract.{Says}
use Rattle.line_format.specs.Calls.{write_of, write_bytes}
use Rattle.line_format.specs.Reading.{read_of}
use Rattle.face_values.specs.Answers.{one_number}
use Rattle.face_values.specs.Lines.{line_in}
use Rattle.face_values.specs.Only.{Meets, result}
use Rattle.face_values.proofs.Meets.{meets, meets-leaving}
use Rattle.face_laws.specs.Values.{line_and_place}
use Rattle.face_lines.proofs.jidrofex_write_line.Reads as write-line
use Rattle.face_lines.proofs.jidrofex_read_line.Reads as read-line

-- jidrofex_write_line(line: &[u64; 4], buffer: &mut [u8], answer: &mut [u64; 5]) -> u8
pub write-line-says : Says write-line.Learnt
    (λ κs (words, (buf, _)) r (_, (left, (answer, _))).
    let line = line_in words.now in
    Meets one_number (write_of most_ports line buf.now) (write_bytes most_ports line buf.now ∷ []) (result r answer.now (left.now ∷ [])))
write-line-says κs a r e h = meets-leaving h

-- jidrofex_read_line(text: &[u8], place: usize, answer: &mut [u64; 5]) -> u8
pub read-line-says : Says read-line.Learnt
    (λ κs (text, (place, _)) r (_, (_, (answer, _))). Meets line_and_place (read_of largest64 most_ports text.now place) [] (result r answer.now []))
read-line-says κs a r e h = meets h
