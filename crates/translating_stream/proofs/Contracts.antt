-- What the contracts say, in the definitions that the laws speak of. A clause that is lost or weakened is missed here.
-- Assumes nothing.
use mathlib.Core.Path.{◌≡◌}
use lib.ListN.{take, drop}
use Rattle.words.specs.Contract.{Says}
use Rattle.line_format.specs.Calls.{over}
use Rattle.translating_stream.specs.Parts.{PartIs}
use Rattle.translating_stream.proofs.translate_some.Reads as translate-some
use Rattle.translating_stream.proofs.translate_held.Reads as translate-held

-- translate_some(text: &[u8], ports: u8, line: u64, out: &mut [u8]) -> Part
pub translate-some-says : Says translate-some.Learnt
    (λ κs (text, (ports, (line, (out, _)))) r (_, (_, (_, (left, _)))). PartIs ports line text.now out.now left.now r)
translate-some-says κs a r e h = h

-- translate_held(text: &mut [u8], n: usize, ports: u8, line: u64, out: &mut [u8]) -> Part
pub translate-held-says : Says translate-held.Learnt
    (λ κs (text, (n, (ports, (line, (out, _))))) r (kept, (_, (_, (_, (left, _))))).
    PartIs ports line (take n text.now) out.now left.now r × (kept.now ≡ over (drop r.used (take n text.now)) text.now))
translate-held-says κs a r e h = h
