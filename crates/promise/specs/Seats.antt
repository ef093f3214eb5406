-- What comes after an error (request 4, 'Reseat after an error'): 'a request after an error first gives the order `seat=j` for each jack from 1 to n, one per
-- request, and then the mark again'.
-- Assumes nothing.
use Rattle.std.specs.Prelude.{ℕ, zero, suc, ◌≤◌, ◌≡◌, Bool, not, cond, ◌&&◌, List, [], ◌∷◌, ◌++◌, length, take}
use Rattle.std.proofs.Math.Option.{Option, none, some}
use Rattle.promise.specs.Campaign.{State, error, is_closing, seating, Setting}
use Rattle.promise.specs.Bench.{Act, moves, seats, meets, says}
use Rattle.promise.specs.Onward.{Past}

-- ---- act by act

-- what is due after a report: nothing if it closes the mark; after an error the seats from jack 1 on
abbrev pub due_after : Bool → Option ℕ
due_after closing = cond closing none (some 1)

-- after an error exactly the seats 1 to n come in turn and then the same mark, m, with its number, nothing between; and no seat comes but so (due: none, or the
-- jack that is due, where one past the last is the mark)
unfoldable pub Reseats : ℕ → ℕ × ℕ → Option ℕ → List Act → Type 0
Reseats n m none [] = Unit {0}
Reseats n m none (moves o ∷ xs) = Reseats n m none xs
Reseats n m none (seats j ∷ xs) = ⊥
Reseats n m none (meets k r ∷ xs) = Reseats n (k, r) none xs
Reseats n m none (says w ∷ xs) = Reseats n m (due_after (is_closing w)) xs
Reseats n m (some j) [] = Unit {0}
Reseats n m (some j) (moves o ∷ xs) = ⊥
Reseats n m (some j) (seats i ∷ xs) = (i ≡ j) × (j ≤ n) × Reseats n m (some (suc j)) xs
Reseats n m (some j) (meets k r ∷ xs) = (j ≡ suc n) × ((k, r) ≡ m) × Reseats n m none xs
Reseats n m (some j) (says w ∷ xs) = ⊥

-- so of a whole campaign
abbrev pub Reseated : ℕ → List Act → Type 0
Reseated n xs = Reseats n (0, 0) none xs

-- what is due in a state with its past: the next jack to seat; the mark where the last report was an error and all are seated; else nothing
abbrev pub seat_due : Setting → State → Past → Option ℕ
seat_due C s b = cond (seating s) (some s.to_seat) (cond (b.again && not s.standing) (some (suc C.family.ports)) none)

-- how many seats are done
unfoldable pub seats_done : List Act → ℕ
seats_done [] = 0
seats_done (moves o ∷ xs) = seats_done xs
seats_done (seats j ∷ xs) = suc (seats_done xs)
seats_done (meets k r ∷ xs) = seats_done xs
seats_done (says w ∷ xs) = seats_done xs

-- ---- error by error

-- the seats of k jacks from jack j on, and then the mark m
unfoldable pub row_from : ℕ → ℕ → ℕ × ℕ → List Act
row_from j zero m = meets m.0 m.1 ∷ []
row_from j (suc k) m = seats j ∷ row_from (suc j) k m

-- the last mark that was met (m: the one before)
unfoldable pub last_mark : ℕ × ℕ → List Act → ℕ × ℕ
last_mark m [] = m
last_mark m (moves o ∷ xs) = last_mark m xs
last_mark m (seats j ∷ xs) = last_mark m xs
last_mark m (meets k r ∷ xs) = last_mark (k, r) xs
last_mark m (says w ∷ xs) = last_mark m xs

-- whatever happens after an error is, as far as it goes, seat 1 to seat n and then the mark of which the error was said
abbrev pub RowAfterErrors : ℕ → List Act → Type 0
RowAfterErrors n xs = (ys zs : List Act) → xs ≡ ys ++ says error ∷ zs → take (suc n) zs ≡ take (length zs) (row_from 1 n (last_mark (0, 0) ys))
