-- What is still to come before a mark, by its next order alone.
-- Assumes nothing.
use Rattle.std.specs.Prelude.{List, [], ◌∷◌}
use Rattle.std.proofs.Math.Option.{Option, none, some}
use Rattle.listing.specs.Orders as list
use Rattle.words.specs.Meaning.{order_of}
use Rattle.campaign_way.specs.declared.ToCome.{ToCome}
use Rattle.campaign_way.specs.declared.ToCome.TheVariants.{Astray, Clear, Next}

-- of the orders still to come the next one, if there is one; none where the panel may not stand there
abbrev pub next_of : Option (List list.Order) → Option (Option list.Order)
next_of none = none
next_of (some []) = some none
next_of (some (o ∷ os)) = some (some o)

-- the same of an answer
abbrev pub coming_is : ToCome → Option (Option list.Order)
coming_is Astray = none
coming_is Clear = some none
coming_is (Next o) = some (some (order_of o))

-- what was found further on, or else what is found here
abbrev pub or_next : Option (Option list.Order) → Option (Option list.Order) → Option (Option list.Order)
or_next none b = b
or_next (some a) b = some a
