-- What the contract of each call says, in the definitions that the laws speak of. A clause that is lost or weakened is missed here.
-- Assumes nothing.
use mathlib.Core.Path.{◌≡◌}
use Rattle.listing.specs.Limits.{most_ports}
use Rattle.words.specs.Contract.{Says}
use Rattle.words.specs.Meaning.{outcome_told}
use Rattle.panel.specs.Calls.{port_of, jack_of, carry_of, carry_bytes}
use Rattle.panel.specs.Answers.{looked_told, found_told}
use Rattle.panel.proofs.lookups.port_at.Reads as port-at
use Rattle.panel.proofs.lookups.jack_of.Reads as jack-of
use Rattle.panel.proofs.lines.carry.Reads as carry

-- port_at(panel: &[u8], jack: Jack) -> Looked
pub port-at-says : Says port-at.Learnt (λ κs (panel, (jack, _)) r e. looked_told r ≡ port_of most_ports panel.now jack.0)
port-at-says κs a r e h = h

-- jack_of(panel: &[u8], port: Port) -> Found
pub jack-of-says : Says jack-of.Learnt (λ κs (panel, (port, _)) r e. found_told r ≡ jack_of most_ports panel.now port.0)
jack-of-says κs a r e h = h

-- carry(panel: &mut [u8], line: Line) -> Outcome
pub carry-says : Says carry.Learnt
    (λ κs (panel, (line, _)) r (left, _). (outcome_told r ≡ carry_of most_ports line panel.now) × (left.now ≡ carry_bytes most_ports line panel.now))
carry-says κs a r e h = h
