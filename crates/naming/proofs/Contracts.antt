-- What the contract of `named_text` says, in the definitions that the laws speak of. A clause that is lost or weakened is missed here.
-- Assumes nothing.
use mathlib.Core.Path.{◌≡◌}
use lib.ListN.{length}
use Rattle.words.specs.Contract.{Says}
use Rattle.line_format.specs.Calls.{over}
use Rattle.naming.specs.Text.{named_text}
use Rattle.naming.proofs.named_text.Reads as named-text

-- named_text(ruled: RuledPlan, buf: &mut [u8]) -> usize
pub named-text-says : Says named-text.Learnt
    (λ κs (ruled, (buf, _)) r (_, (left, _)). (r ≡ length (named_text ruled.plan)) × (left.now ≡ over (named_text ruled.plan) buf.now))
named-text-says κs a r e h = h
