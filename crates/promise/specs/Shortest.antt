-- Ways from one panel to another, and the shortest by swaps (request 14: is the carriage as short as it can be?).
-- Assumes nothing.
use Rattle.std.specs.Prelude.{ℕ, ◌+◌, ◌≤◌, ◌≡◌, ◌≢◌, Bool, List, [], ◌∷◌, length}
use Rattle.listing.specs.Numbers.{Among}
use Rattle.listing.specs.Orders.{Order, swap, turn, carry_all}
use Rattle.promise.specs.Plan.{Leg, step_of}
use Rattle.promise.specs.Bench.{Act, AtNew}

-- ---- ways

-- two different jacks of a panel of n
abbrev pub TwoJacks : ℕ → ℕ → ℕ → Type 0
TwoJacks n a b = Among n a × Among n b × (a ≢ b)

-- an order on such a panel: a swap of two different jacks or a turn of three, named in any order. Nothing else is asked of it
abbrev pub OnJacks : ℕ → Order → Type 0
OnJacks n (swap a b) = TwoJacks n a b
OnJacks n (turn a b c) = TwoJacks n a b × TwoJacks n b c × (a ≢ c)

-- several orders on it
abbrev pub AllOnJacks : ℕ → List Order → Type 0
AllOnJacks n [] = Unit {0}
AllOnJacks n (o ∷ os) = OnJacks n o × AllOnJacks n os

-- a way from panel p to panel t, both of n jacks: orders that lead there. Nothing is asked of the panels on it, so that it may pass self-joins
pub record Way (n : ℕ) (p t : List ℕ) (os : List Order) : Type 0 where
  pub orders : AllOnJacks n os
  pub leads : carry_all os p ≡ t

-- it is by swaps: no turn is among its orders. A turn is one order, and does what two swaps do
abbrev pub Swaps : List Order → Type 0
Swaps [] = Unit {0}
Swaps (swap a b ∷ os) = Swaps os
Swaps (turn a b c ∷ os) = ⊥

-- a shortest way by swaps: 'no sequence of swaps that reaches the target is shorter'. The length of a way is how many orders it has
pub record Shortest (n : ℕ) (p t : List ℕ) (os : List Order) : Type 0 where
  pub way : Way n p t os
  pub swaps : Swaps os
  pub fewest : (others : List Order) → Way n p t others → Swaps others → length os ≤ length others

-- orders counted in swaps: a turn is two
unfoldable pub in_swaps : List Order → ℕ
in_swaps [] = 0
in_swaps (swap a b ∷ os) = 1 + in_swaps os
in_swaps (turn a b c ∷ os) = 2 + in_swaps os

-- ---- what a campaign gives

-- at each leg's first mark that is no repeat after an error (again), the orders os since the mark before are a shortest way by swaps from the panel at that
-- mark, last, to the one now, p; on n ports
abbrev pub CarriedShortest : ℕ → List Leg → Bool → List Order → List ℕ → List ℕ → List Act → Type 0
CarriedShortest n legs again os last p xs = AtNew (λ k os last p. step_of legs k ≡ 0 → Shortest n last p os) again os last p xs
