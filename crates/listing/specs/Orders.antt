-- Movement orders and moves: what they are, what they do to a panel, and the paper's form of each (the paper, 'The list' and 'Order lines').
-- Assumes nothing.
use Rattle.std.specs.Prelude.{ℕ, ◌≤◌, ◌<◌, ◌≡◌, ◌≢◌, List, [], ◌∷◌, length}
use Rattle.listing.specs.Numbers.{is, raise}
use Rattle.listing.specs.Pattern.{entry, tabulate}

-- a movement order of the robot, by its jacks
pub data Order : Type 0 where
  swap : ℕ → ℕ → Order
  turn : ℕ → ℕ → ℕ → Order

-- the jack whose port jack j gets: a swap exchanges two jacks; in a turn a,b,c jack a gets what b held, b what c held, c what a held
unfoldable pub source : Order → ℕ → ℕ
source (swap a b) j = is j a b (is j b a j)
source (turn a b c) j = is j a b (is j b c (is j c a j))

-- the panel after an order
unfoldable pub carry : Order → List ℕ → List ℕ
carry o p = tabulate (length p) (λ j. entry p (source o j))

-- the panel after several orders, the first one first
unfoldable pub carry_all : List Order → List ℕ → List ℕ
carry_all [] p = p
carry_all (o ∷ os) p = carry_all os (carry o p)

-- an order in shape: its jacks are different and among 1..n; of a swap the smaller comes first, of a turn the smallest
abbrev pub InShape : ℕ → Order → Type 0
InShape n (swap a b) = (1 ≤ a) × (a < b) × (b ≤ n)
InShape n (turn a b c) = (1 ≤ a) × (a < b) × (b ≤ n) × (a < c) × (c ≤ n) × (b ≢ c)

-- several orders in shape
abbrev pub AllInShape : ℕ → List Order → Type 0
AllInShape n [] = Unit {0}
AllInShape n (o ∷ os) = InShape n o × AllInShape n os

-- a move from a pattern to its neighbour: nothing, one order, or two swaps a,b and c,d
pub data Move : Type 0 where
  nothing : Move
  one : Order → Move
  two : ℕ → ℕ → ℕ → ℕ → Move

-- the orders that a move is: two swaps are two orders
abbrev pub orders : Move → List Order
orders nothing = []
orders (one o) = o ∷ []
orders (two a b c d) = swap a b ∷ swap c d ∷ []

-- the panel after a move
abbrev pub moved : Move → List ℕ → List ℕ
moved m p = carry_all (orders m) p

-- a move in the paper's form: its orders are in shape; two swaps are on four different jacks, the smaller first jack first
abbrev pub InForm : ℕ → Move → Type 0
InForm n nothing = Unit {0}
InForm n (one o) = InShape n o
InForm n (two a b c d) = InShape n (swap a b) × InShape n (swap c d) × (a < c) × (b ≢ c) × (b ≢ d)

-- one move in the paper's form makes q of p, a panel of n jacks
pub record Leads (n : ℕ) (m : Move) (p q : List ℕ) : Type 0 where
  pub long : length p ≡ n
  pub form : InForm n m
  pub makes : moved m p ≡ q

-- the move that leads back
abbrev pub inverse : Move → Move
inverse nothing = nothing
inverse (one (swap a b)) = one (swap a b)
inverse (one (turn a b c)) = one (turn a c b)
inverse (two a b c d) = two a b c d

-- the same on the jacks of the longer pattern that B(i) makes: those from i on stand one further
abbrev pub raised_order : ℕ → Order → Order
raised_order i (swap a b) = swap (raise i a) (raise i b)
raised_order i (turn a b c) = turn (raise i a) (raise i b) (raise i c)

abbrev pub raised : ℕ → Move → Move
raised i nothing = nothing
raised i (one o) = one (raised_order i o)
raised i (two a b c d) = two (raise i a) (raise i b) (raise i c) (raise i d)
