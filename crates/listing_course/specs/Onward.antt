-- The move on from a pattern, read off its course from the bottom up: the first level that is open gives a row of the tables, and each step by B above it
-- raises the move; where no level is open the list ends, and the circuit closes (relations (3) to (9) of document 000; the paper, 'The list').
-- Assumes nothing.
use Rattle.std.specs.Prelude.{ℕ, zero, suc, ◌≡◌, Bool, true, not, cond, List, eqb}
use Rattle.std.specs.Bool.{beq}
use Rattle.std.proofs.Math.Option.{Option, none, some}
use Rattle.listing.specs.Numbers.{before, odd}
use Rattle.listing.specs.Pattern.{entry, Derangement}
use Rattle.listing.specs.Count.{count}
use Rattle.listing.specs.Steps.{Letter, by_a, by_b}
use Rattle.listing.specs.Rank.{turned, rank}
use Rattle.listing.specs.Orders.{Move, one, turn, Leads, inverse, raised}
use Rattle.listing.specs.Joins.{join, hop, closing}

-- which way the list for n ports is read, where the list for 2 ports, at the bottom of the course, is read forward or backward: it turns round at each level
-- whose number is even, as that of a skipped level, 0, is
unfoldable pub read_at : List ℕ → Bool → ℕ → Bool
read_at c bottom zero = bottom
read_at c bottom (suc zero) = bottom
read_at c bottom (suc (suc zero)) = bottom
read_at c bottom (suc (suc (suc m))) = beq (odd (entry c (suc (suc (suc m))))) (read_at c bottom (suc (suc m)))

-- a move of the shorter list on the jacks of the longer: by A as it is, by B among the jacks without i
abbrev pub lifted_by : Letter → ℕ → Move → Move
lifted_by by_a i v = v
lifted_by by_b i v = raised i v

-- from the one part of block i to the other. With 3 ports no pattern comes by B: from the one block to the other, by relation (5) and back
abbrev pub join_from : Letter → ℕ → ℕ → Move
join_from by_a n i = cond (eqb n 3) (one (cond (eqb i 1) (turn 1 2 3) (turn 1 3 2))) (join n i)
join_from by_b n i = inverse (join n i)

-- from block i to the next, or to the one before it
abbrev pub hop_from : Bool → ℕ → ℕ → Move
hop_from forward n i = cond forward (hop n i) (inverse (hop n (before i)))

-- whether a level goes on where the shorter list ends. The shorter list is read forward in the first part of a block, and from there the block goes on to its
-- second part, with 3 ports to the other block; from the second part it goes on to another block, but not from the last, or backward not from the first
abbrev pub is_open : Bool → Bool → ℕ → ℕ → Bool
is_open inner forward n i = cond inner true (not (eqb i (cond forward (before n) 1)))

-- the row of the tables by which it does
abbrev pub row : Bool → Bool → Letter → ℕ → ℕ → Move
row inner forward w n i = cond inner (join_from w n i) (hop_from forward n i)

-- one level: the move of the shorter list, lifted; where that ends, the row, if the level is open
abbrev pub on_level : Bool → Bool → Letter → ℕ → ℕ → Option Move → Option Move
on_level inner forward w n i (some v) = some (lifted_by w i v)
on_level inner forward w n i none = cond (is_open inner forward n i) (some (row inner forward w n i)) none

-- the move on in the list for n ports from the pattern that a course makes; none where that list ends
unfoldable pub goes_on : List ℕ → Bool → ℕ → Option Move
goes_on c bottom zero = none
goes_on c bottom (suc zero) = none
goes_on c bottom (suc (suc zero)) = none
goes_on c bottom (suc (suc (suc m))) =
    let n = suc (suc (suc m)) in
    let forward = read_at c bottom n in
    cond (eqb (entry c (suc (suc m))) 0)
    (on_level (read_at c bottom (suc m)) forward by_b n (entry c n) (goes_on c bottom (suc m)))
    (on_level (read_at c bottom (suc (suc m))) forward by_a n (entry c n) (goes_on c bottom (suc (suc m))))

-- the step between the ends of the list
abbrev pub or_closing : Bool → ℕ → Option Move → Move
or_closing back n (some v) = v
or_closing back n none = cond back (inverse (closing n)) (closing n)

-- the way to read the list for 2 ports at the bottom, so that the list for n is read forward or backward
unfoldable pub bottom_read : List ℕ → ℕ → Bool → Bool
bottom_read c n forward = beq (read_at c true n) forward

-- the move from the pattern that a course makes to the one beside it, the next or, backward, the previous, round the circuit
unfoldable pub course_move : List ℕ → ℕ → Bool → Move
course_move c n back = or_closing back n (goes_on c (bottom_read c n (not back)) n)

-- v leads from p to the pattern one place on in the list for n ports, read forward or backward
pub record Next (forward : Bool) (n : ℕ) (p : List ℕ) (v : Move) : Type 0 where
  pub to : List ℕ
  pub pattern : Derangement n to
  pub leads : Leads n v p to
  pub place : turned forward (count n) (rank n to) ≡ suc (turned forward (count n) (rank n p))

-- the same of a move or none, and none where p is the last of the list, read that way
abbrev pub On : Bool → ℕ → List ℕ → Option Move → Type 0
On forward n p (some v) = Next forward n p v
On forward n p none = suc (turned forward (count n) (rank n p)) ≡ count n
