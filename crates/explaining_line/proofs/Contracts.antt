-- What the contract of `explain` says, in the definitions that the laws speak of: a clause that is lost or weakened is missed here.
-- Assumes nothing.
use mathlib.Core.Path.{◌≡◌}
use lib.ListN.{length}
use Rattle.words.specs.Contract.{Says}
use Rattle.words.specs.Meaning.{outcome_told}
use Rattle.line_format.specs.Calls.{over}
use Rattle.line_putting.proofs.Putting.{puts-front}
use Rattle.explaining.specs.Text.{explained, explain_of}
use Rattle.explaining_line.proofs.explain.Reads as explain

-- explain(t: &[u8], buf: &mut [u8]) -> Explained
pub explain-says : Says explain.Learnt
    (λ κs (t, (buf, _)) r (_, (left, _)).
    (outcome_told r.judged ≡ explain_of t.now) × (r.len ≡ length (explained t.now)) × (left.now ≡ over (explained t.now) buf.now))
explain-says κs a r e h = let front = puts-front _ _ _ _ h.puts in (h.judged, front.0, front.1)
