-- What the contract of each call for C says, its number, the words of its answer and each lent slice, in the definitions that the laws speak of. A clause that
-- is lost or weakened is missed here.
-- Assumes nothing.
use mathlib.Core.List.{[], ◌∷◌}
use Rattle.listing.specs.Limits.{most_ports}
use Rattle.words.specs.Contract.{Says}
use Rattle.panel.specs.Calls.{port_of, jack_of, carry_of, carry_bytes}
use Rattle.face_values.specs.Answers.{nothing, one_number}
use Rattle.face_values.specs.Lines.{line_in}
use Rattle.face_values.specs.Only.{Meets, result}
use Rattle.face_values.proofs.Meets.{meets, meets-leaving}
use Rattle.face_panel.proofs.jidrofex_port_at.Reads as port-at
use Rattle.face_panel.proofs.jidrofex_jack_of.Reads as jack-of
use Rattle.face_panel.proofs.jidrofex_carry.Reads as carry

-- jidrofex_port_at(panel: &[u8], jack: u8, answer: &mut [u64; 5]) -> u8
pub port-at-says : Says port-at.Learnt
    (λ κs (panel, (jack, _)) r (_, (_, (answer, _))). Meets one_number (port_of most_ports panel.now jack) [] (result r answer.now []))
port-at-says κs a r e h = meets h

-- jidrofex_jack_of(panel: &[u8], port: u8, answer: &mut [u64; 5]) -> u8
pub jack-of-says : Says jack-of.Learnt
    (λ κs (panel, (port, _)) r (_, (_, (answer, _))). Meets one_number (jack_of most_ports panel.now port) [] (result r answer.now []))
jack-of-says κs a r e h = meets h

-- jidrofex_carry(panel: &mut [u8], line: &[u64; 4], answer: &mut [u64; 5]) -> u8
pub carry-says : Says carry.Learnt
    (λ κs (panel, (words, _)) r (left, (_, (answer, _))).
    let line = line_in words.now in
    Meets nothing (carry_of most_ports line panel.now) (carry_bytes most_ports line panel.now ∷ []) (result r answer.now (left.now ∷ [])))
carry-says κs a r e h = meets-leaving h
