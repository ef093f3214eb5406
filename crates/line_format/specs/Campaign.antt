-- The lines that a campaign writes (the paper, 'The campaign' and 'Order lines'; request 4). The jacks, the largest number and the count of ranks are parameters.
-- Assumes nothing.
use Rattle.std.specs.Prelude.{ℕ, ◌≤◌, ◌<◌}
use Rattle.listing.specs.Numbers.{Among}
use Rattle.listing.specs.Orders.{InShape}
use Rattle.words.specs.Meaning.{order_of}
use Rattle.words.specs.declared.Line.{Line}
use Rattle.words.specs.declared.Line.TheVariants.{Movement, Seat, Mark, End}

-- an order in shape, a seat at one of the jacks, a mark whose rank is below the count, an end; no number above `most`
abbrev pub OfCampaign : ℕ → ℕ → ℕ → Line → Type 0
OfCampaign jacks most ranks (Movement o) = InShape jacks (order_of o)
OfCampaign jacks most ranks (Seat j) = Among jacks j.0
OfCampaign jacks most ranks (Mark m r) = (m ≤ most) × (r < ranks)
OfCampaign jacks most ranks (End m) = m ≤ most

-- 'The longest that a campaign writes is 45 bytes', its newline included
abbrev pub most_bytes : ℕ
most_bytes = 45
