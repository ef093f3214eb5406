-- What the answer to a call shows: its line, on the panel that the line finds and the panel that it leads to.
-- Assumes nothing.
use Rattle.std.specs.Prelude.{ℕ, ◌≡◌, true, List}
use Rattle.std.proofs.Math.Option.{Option, none, some}
use Rattle.listing.specs.Count.{count}
use Rattle.listing.specs.Listing.{at}
use Rattle.listing.specs.Limits.{most_ports, largest64}
use Rattle.words.specs.Shape.{line_fits}
use Rattle.words.specs.declared.Line.{Line}
use Rattle.words.specs.declared.Line.TheVariants.{Movement, Seat, Mark, End}
use Rattle.line_format.specs.Campaign.{OfCampaign}
use Rattle.panel.specs.Calls.{after_line}

-- at a mark the panel is the pattern of the rank in that line
abbrev pub MeetsAt : ℕ → Line → List ℕ → Type 0
MeetsAt n (Movement o) q = Unit {0}
MeetsAt n (Seat j) q = Unit {0}
MeetsAt n (Mark k r) q = q ≡ at n r
MeetsAt n (End k) q = Unit {0}

-- the line l on a panel q of n ports, which is q' after it
pub record Shows (n : ℕ) (l : Line) (q q' : List ℕ) : Type 0 where
  pub ours : OfCampaign most_ports largest64 (count most_ports) l
  pub fits : line_fits n l ≡ true
  pub meets : MeetsAt n l q
  pub leads : after_line l q ≡ q'

-- by the answer: without a line the panel stays
abbrev pub Shown : ℕ → Option Line → List ℕ → List ℕ → Type 0
Shown n none q q' = q ≡ q'
Shown n (some l) q q' = Shows n l q q'
