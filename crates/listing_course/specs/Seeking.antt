-- Where a list goes on from the pattern of a course: the lowest level that is open. Code seeks it on the way down, and keeps the last one that it met.
-- Assumes nothing.
use Rattle.std.specs.Prelude.{ℕ, ◌≤◌, ◌≡◌, ◌≢◌, Bool, true, not, cond, List, eqb}
use Rattle.std.proofs.Math.Option.{none, some}
use Rattle.listing.specs.Numbers.{before}
use Rattle.listing.specs.Pattern.{entry}
use Rattle.listing.specs.Steps.{Letter, by_a, by_b}
use Rattle.listing.specs.Reading.{comes_first}
use Rattle.listing.specs.Orders.{Move}
use Rattle.listing_course.specs.Course.{Course, Agrees}
use Rattle.listing_course.specs.Onward.{read_at, is_open, row, goes_on}

-- B if b, else A
abbrev pub letter_if : Bool → Letter
letter_if b = cond b by_b by_a

-- the letter of level k of a course: B over a skipped level, else A
abbrev pub letter_at : List ℕ → ℕ → Letter
letter_at c k = letter_if (eqb (entry c (before k)) 0)

-- which way the list for k ports is read, where the shorter one is read inner
abbrev pub read_over : List ℕ → ℕ → Bool → Bool
read_over c k inner = comes_first inner (letter_at c k) (entry c k)

-- the row of level k
abbrev pub row_at : List ℕ → ℕ → Bool → Move
row_at c k inner = row inner (read_over c k inner) (letter_at c k) k (entry c k)

-- level k of a course is open, its shorter list read inner: there the list for k ports goes on from the pattern of the course by the row
pub record Opens (c : List ℕ) (bottom : Bool) (k : ℕ) (inner : Bool) : Type 0 where
  pub three : 3 ≤ k
  pub course : Course c k
  pub opened : is_open inner (read_over c k inner) k (entry c k) ≡ true
  pub goes : goes_on c bottom k ≡ some (row_at c k inner)

-- where the list for n ports goes on: at level k, or at none, for which 0 stands
pub record Found (c : List ℕ) (bottom : Bool) (n k : ℕ) (inner : Bool) : Type 0 where
  pub most : k ≤ n
  pub ends : k ≡ 0 → goes_on c bottom n ≡ none
  pub opens : k ≢ 0 → Opens c bottom k inner

-- the same, with the list at the bottom read so that the list for n is read forward or, back, backward
abbrev pub Sought : List ℕ → ℕ → Bool → ℕ → Bool → Type 0
Sought c n back k inner = (bottom : Bool) × (read_at c bottom n ≡ not back) × Found c bottom n k inner

-- a move v of the list for m ports, lifted up the course, is the move w of the list for n
abbrev pub Lifted : List ℕ → ℕ → Move → ℕ → Move → Type 0
Lifted c m v n w = (bottom : Bool) → goes_on c bottom m ≡ some v → goes_on c bottom n ≡ some w

-- on the way down from n ports, where the list for n is read forward or backward and the list for m is read here, the lowest level found open above m is k, or
-- none: so it is of every course with the numbers above m as they stand, if the list for m ports ends
pub record Seeking (c : List ℕ) (n : ℕ) (forward : Bool) (m : ℕ) (here : Bool) (k : ℕ) (inner : Bool) : Type 0 where
  pub seen : (d : List ℕ) (bottom : Bool) → Course d m → Agrees c d m n → read_at d bottom m ≡ here
      → (read_at d bottom n ≡ forward) × (goes_on d bottom m ≡ none → Found d bottom n k inner)
