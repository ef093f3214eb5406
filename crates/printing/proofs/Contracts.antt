-- What the contract of each call says, in the definitions that the laws speak of. A clause that is lost or weakened is missed here.
-- Assumes nothing.
use mathlib.Core.Path.{◌≡◌}
use lib.ListN.{length}
use Rattle.words.specs.Contract.{Says}
use Rattle.printing.specs.Rehearsals.{state_of}
use Rattle.printing.specs.Answers.{fill_bytes, PrintedIs, RehearsedIs}
use Rattle.printing.proofs.rehearse.Reads as rehearse
use Rattle.printing.proofs.fill.Reads as fill

-- rehearse(text: &[u8]) -> Rehearsed
pub rehearse-says : Says rehearse.Learnt (λ κs (text, _) r e. RehearsedIs text.now r)
rehearse-says κs a r e h = h

-- fill(r: Rehearsal, buf: &mut [u8]) -> Printed
pub fill-says : Says fill.Learnt
    (λ κs (r, (buf, _)) p (_, (left, _)). PrintedIs (length buf.now) r p × (left.now ≡ fill_bytes (state_of r) buf.now))
fill-says κs a r e h = h
