-- The tables of the moves between parts of the list, row by row in n and i, as a match reads them: relations (5), (3), (7), (8) and the closing step.
-- Assumes nothing.
use mathlib.Core.Path.{◌≡◌}
use mathlib.Core.Logic.{◌≢◌}
use mathlib.Core.Bool.{true, false}
use Prim.Native.Nat.{ℕ, ◌+◌, ◌-◌, ◌≤◌, ◌<◌}
use native.Mathlib.Omega.{arith}
use borrow.Author.Tests.{eq-eqb, ne_eqb, lt-ltb, le-ltb}
use Rattle.listing.specs.Numbers.{odd}
use Rattle.listing.specs.Orders.{nothing, one, two, swap, turn}
use Rattle.listing.specs.Joins.{hop_a, hop_b, hop, join4, join5, join, closing}

-- ---- from block to block: relations (5) and (3)

pub hop_a-one : (n i : ℕ) → i ≡ 1 → hop_a n i ≡ one (turn 1 (n - 1) n)
unfolding hop_a
hop_a-one n i e = rw (eq-eqb i 1 e)

pub hop_a-more : (n i : ℕ) → i ≢ 1 → hop_a n i ≡ one (turn (i - 1) n i)
unfolding hop_a
hop_a-more n i e = rw (ne_eqb i 1 e)

pub hop_b-one : (n i : ℕ) → i ≡ 1 → hop_b n i ≡ two 1 2 (n - 1) n
unfolding hop_b
hop_b-one n i e = rw (eq-eqb i 1 e)

pub hop_b-more : (n i : ℕ) → i ≢ 1 → hop_b n i ≡ two (i - 1) n i (i + 1)
unfolding hop_b
hop_b-more n i e = rw (ne_eqb i 1 e)

pub hop-odd : (n i : ℕ) → odd i ≡ true → hop n i ≡ hop_b n i
unfolding hop
hop-odd n i e = rw e

pub hop-even : (n i : ℕ) → odd i ≡ false → hop n i ≡ hop_a n i
unfolding hop
hop-even n i e = rw e

-- ---- inside a block, n = 4: relation (7)

pub join4-one : (n i : ℕ) → n ≡ 4 → i ≡ 1 → join n i ≡ one (swap 1 2)
unfolding join join4
join4-one n i e h = rw (eq-eqb n 4 e, eq-eqb i 1 h)

pub join4-two : (n i : ℕ) → n ≡ 4 → i ≡ 2 → join n i ≡ one (swap 2 3)
unfolding join join4
join4-two n i e h = rw (eq-eqb n 4 e, ne_eqb i 1 (omega arith), eq-eqb i 2 h)

pub join4-more : (n i : ℕ) → n ≡ 4 → i ≢ 1 → i ≢ 2 → join n i ≡ one (swap 1 3)
unfolding join join4
join4-more n i e h k = rw (eq-eqb n 4 e, ne_eqb i 1 h, ne_eqb i 2 k)

-- ---- inside a block, n at least 5: relation (8), with the row i = n-2 as the list has it

module _ (n i : ℕ) (big : 5 ≤ n) where
  pub join-one-odd : i ≡ 1 → odd n ≡ true → join n i ≡ one (turn 1 (n - 3) (n - 2))
  unfolding join join5
  join-one-odd h b = rw (ne_eqb n 4 (omega arith), eq-eqb i 1 h, b)

  pub join-one-even : i ≡ 1 → odd n ≡ false → join n i ≡ one (turn 1 (n - 2) (n - 3))
  unfolding join join5
  join-one-even h b = rw (ne_eqb n 4 (omega arith), eq-eqb i 1 h, b)

  pub join-inner : i ≢ 1 → i < n - 3 → join n i ≡ two (i - 1) i (n - 3) (n - 2)
  unfolding join join5
  join-inner h k = rw (ne_eqb n 4 (omega arith), ne_eqb i 1 h, lt-ltb i (n - 3) k)

  pub join-third : i ≡ n - 3 → join n i ≡ one (turn (n - 4) (n - 2) (n - 3))
  unfolding join join5
  join-third h = rw (ne_eqb n 4 (omega arith), ne_eqb i 1 (omega arith), le-ltb i (n - 3) (omega arith), eq-eqb i (n - 3) h)

  pub join-second : i ≡ n - 2 → join n i ≡ one (turn (n - 4) (n - 2) (n - 1))
  unfolding join join5
  join-second h =
      rw (ne_eqb n 4 (omega arith), ne_eqb i 1 (omega arith), le-ltb i (n - 3) (omega arith), ne_eqb i (n - 3) (omega arith), eq-eqb i (n - 2) h)

  pub join-top-odd : i ≡ n - 1 → odd n ≡ true → join n i ≡ one (turn (n - 4) (n - 1) (n - 2))
  unfolding join join5
  join-top-odd h b =
      rw (ne_eqb n 4 (omega arith), ne_eqb i 1 (omega arith), le-ltb i (n - 3) (omega arith), ne_eqb i (n - 3) (omega arith), ne_eqb i (n - 2) (omega arith), b)

  pub join-top-even : i ≡ n - 1 → odd n ≡ false → join n i ≡ two (n - 4) (n - 2) (n - 3) (n - 1)
  unfolding join join5
  join-top-even h b =
      rw (ne_eqb n 4 (omega arith), ne_eqb i 1 (omega arith), le-ltb i (n - 3) (omega arith), ne_eqb i (n - 3) (omega arith), ne_eqb i (n - 2) (omega arith), b)

-- ---- from the last pattern to the first

pub closing-two : (n : ℕ) → n ≡ 2 → closing n ≡ nothing
unfolding closing
closing-two n e = rw (eq-eqb n 2 e)

pub closing-odd : (n : ℕ) → n ≢ 2 → odd n ≡ true → closing n ≡ one (turn (n - 2) n (n - 1))
unfolding closing
closing-odd n e b = rw (ne_eqb n 2 e, b)

pub closing-even : (n : ℕ) → n ≢ 2 → odd n ≡ false → closing n ≡ one (swap (n - 2) n)
unfolding closing
closing-even n e b = rw (ne_eqb n 2 e, b)
