-- What the contract of `translate_line` says, in the definitions that the laws speak of. A clause that is lost or weakened is missed here.
-- Assumes nothing.
use mathlib.Core.Path.{◌≡◌}
use Rattle.words.specs.Contract.{Says}
use Rattle.line_format.specs.Calls.{over}
use Rattle.translating.specs.Lines.{line_of}
use Rattle.translating_line.specs.Answers.{line_told, went_told, text_in}
use Rattle.translating_line.proofs.translate_line.Reads as translate-line

-- translate_line(t: &[u8], ports: u8, out: &mut [u8]) -> Translated
pub translate-line-says : Says translate-line.Learnt
    (λ κs (t, (ports, (out, _))) r (_, (_, (left, _))). (line_told r ≡ went_told (line_of ports t.now)) × (left.now ≡ over (text_in (line_of ports t.now)) out.now))
translate-line-says κs a r e h = h
