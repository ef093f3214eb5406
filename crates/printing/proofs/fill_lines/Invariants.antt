-- `printing::fill_lines`: line by line the text so far stands at the front of the buffer, and each line leaves less room.
use Prim.Native.Nat.{◌-◌}
use lib.ListN.{length}
use Rattle.printing.proofs.Filling.{Filling}
use Rattle.printing.proofs.fill_lines.Given as goal

abbrev pub invariant-loop-campaign : goal.invariant-loop-campaign
invariant-loop-campaign l = Filling l.initial.campaign.state l.initial.buf l.campaign.state l.buf l.at

abbrev pub decreases-loop-campaign : goal.decreases-loop-campaign
decreases-loop-campaign l = length l.buf - l.at
