-- Round the circuit: at each rank the one move `next_move` leads to the pattern of the next rank, and `previous_move` to that of the previous.
-- A block is looked at as an odd one: an even one is the same read backwards, with the moves inverted.
-- Assumes nothing.
use mathlib.Core.Path.{◌≡◌, refl, sym, ap, ◌∙◌}
use mathlib.Core.Logic.{◌≢◌}
use mathlib.Core.Bool.{true, false, Bool}
use Prim.Native.Nat.{ℕ, zero, suc, ◌+◌, ◌*◌, ◌-◌, ◌/◌, ◌%◌, ◌≤◌, ◌<◌}
use native.Mathlib.Nat.{mod-lt, div-add-mod', mul-le-mul_right}
use native.Mathlib.Omega.{arith}
use borrow.Author.Tests.{lt-ltb, le-ltb, eq-eqb, ne_eqb}
use Rattle.listing.specs.Numbers.{Among, before, odd, is, trade, raise, lower}
use Rattle.listing.specs.Pattern.{tabulate}
use Rattle.listing.specs.Count.{count}
use Rattle.listing.specs.Steps.{by_a, by_b, step_a, step_b}
use Rattle.listing.specs.Listing.{joined, block, blocks, listing, at}
use Rattle.listing.specs.Rank.{from_end, per_block, turned, place}
use Rattle.listing.specs.Ends.{home}
use Rattle.listing.specs.Orders.{Move, one, turn, source, carry, carry_all, Leads}
use Rattle.listing.specs.Joins.{hop}
use Rattle.listing.specs.Neighbours.{next_rank, previous_rank, inside, on_from, next_move, previous_move, rank_beside, move_beside}
use Rattle.listing.proofs.Numbers.{either, below?, same?, test, suc-before, is_same, is-other, odd-next}
use Rattle.listing.proofs.Counts.{count-blocks, count-pos, count-2}
use Rattle.listing.proofs.Places.{at_place}
use Rattle.listing.proofs.Ranks.{per_block-pos, block-among, at-derangement}
use Rattle.listing.proofs.Ends.{at_home, at_last}
use Rattle.listing.proofs.Moves.{leads-back}
use Rattle.listing.proofs.OneMove.{one-move}
use Rattle.listing.proofs.Lifting.{leads-a, leads-b}
use Rattle.listing.proofs.Hops.{hop_a-leads, hop_b-leads}
use Rattle.listing.proofs.Closing.{closing-leads}
use Rattle.listing.proofs.Joining.{join-leads}

-- the rank after r, where r is not the last, and where it is
pub next-on : (n r : ℕ) → suc r ≢ count n → next_rank n r ≡ suc r
unfolding next_rank
next-on n r d = is-other (suc r) (count n) 0 (suc r) d

pub next-round : (n r : ℕ) → suc r ≡ count n → next_rank n r ≡ 0
unfolding next_rank
next-round n r e = is_same (suc r) (count n) 0 (suc r) e

-- the move at a rank, by its block and its place there, for 4 ports or more
pub move-rule : (x r : ℕ) → next_move (suc (suc (suc (suc x)))) r
    ≡ on_from (suc (suc (suc (suc x)))) (next_move (suc (suc (suc x)))) (next_move (suc (suc x)))
    (suc (r / per_block (suc (suc (suc (suc x)))))) (r % per_block (suc (suc (suc (suc x)))))
unfolding next_move
move-rule x r = refl

-- what is to be shown, for n ports
abbrev Onward : ℕ → Type 0
Onward n = (r : ℕ) → r < count n → Leads n (next_move n r) (at n r) (at n (next_rank n r))

-- ---- from the two shorter lists, for n of 4 or more: n = x + 4, m = n - 2

module _ (x : ℕ) (one-shorter : Onward (suc (suc (suc x)))) (two-shorter : Onward (suc (suc x))) where
  abbrev m : ℕ
  m = suc (suc x)

  abbrev n : ℕ
  n = suc (suc m)

  abbrev size : ℕ
  size = per_block n

  -- place u of block i, the block read as an odd one
  abbrev spot : ℕ → ℕ → ℕ
  spot i u = before i * size + turned (odd i) size u

  abbrev within : ℕ → ℕ → Move
  within i u = inside n i (next_move (suc m)) (next_move m) u

  -- the patterns there, by A and by B
  spot-a : (i u : ℕ) → Among (suc m) i → u < count (suc m) → at n (spot i u) ≡ step_a n i (at (suc m) u)
  unfolding place
  spot-a i u fits h = at_place by_a m i u fits h

  spot-b : (i u s : ℕ) → Among (suc m) i → s < count m → u ≡ count (suc m) + from_end (count m) s → at n (spot i u) ≡ step_b n i (at m s)
  unfolding place
  spot-b i u s fits h e = ap (λ (y : ℕ). at n (spot i y)) e ∙ at_place by_b m i s fits h

  -- ---- inside an odd block: A forward, the join, B backward

  inside-leads : (i u : ℕ) → Among (suc m) i → suc u < size → Leads n (within i u) (at n (spot i u)) (at n (spot i (suc u)))
  unfolding inside
  inside-leads i u fits h =
      either (below? (suc u) (count (suc m)))
      (λ a.
      rw (lt-ltb (suc u) (count (suc m)) a, spot-a i u fits (omega arith), spot-a i (suc u) fits a)
      (leads-a m i (rw (next-on (suc m) u (omega arith)) at (one-shorter u (omega arith)))))
      (λ a.
      either (same? (suc u) (count (suc m)))
      (λ e.
      let s = from_end (count m) 0 in
      let some = count-pos x in
      rw (le-ltb (suc u) (count (suc m)) a, eq-eqb (suc u) (count (suc m)) e)
      (rw (spot-a i u fits (omega arith), at_last (suc x) u e, spot-b i (suc u) s fits (omega arith) (omega arith), at_last x s (omega arith))
      (join-leads m i (omega arith) fits)))
      (λ d.
      let s = from_end (count m) (suc (u - count (suc m))) in
      let there : suc s < count m = omega arith in
      rw (le-ltb (suc u) (count (suc m)) a, ne_eqb (suc u) (count (suc m)) d)
      (rw (spot-b i u (suc s) fits there (omega arith), spot-b i (suc u) s fits (omega arith) (omega arith))
      (leads-back (leads-b m i fits (rw (next-on m s (omega arith)) at (two-shorter s (omega arith))))))))

  -- ---- from block to block: B to B after an odd one, A to A after an even one

  hop-leads : (i r : ℕ) → Among m i → suc r ≡ i * size → Leads n (hop n i) (at n r) (at n (suc r))
  unfolding hop
  hop-leads zero r fits e = absurd (omega arith)
  hop-leads (suc q) r fits e =
      let i = suc q in
      let some-A = count-pos (suc x) in
      let some-B = count-pos x in
      either (test (odd i))
      (λ o.
      let u = count (suc m) + from_end (count m) 0 in
      let turn : odd (suc i) ≡ false = odd-next i ∙ rw o in
      let here : r ≡ spot i u = rw o (omega arith) in
      let there : suc r ≡ spot (suc i) u = rw turn (omega arith) in
      let from : at n r ≡ step_b n i (home m) = ap (at n) here ∙ spot-b i u 0 (omega arith) some-B refl ∙ ap (step_b n i) (at_home x) in
      let to : at n (suc r) ≡ step_b n (suc i) (home m) = ap (at n) there ∙ spot-b (suc i) u 0 (omega arith) some-B refl ∙ ap (step_b n (suc i)) (at_home x) in
      rw (o, from, to) (hop_b-leads m i (omega arith) fits))
      (λ o.
      let turn : odd (suc i) ≡ true = odd-next i ∙ rw o in
      let here : r ≡ spot i 0 = rw o (omega arith) in
      let there : suc r ≡ spot (suc i) 0 = rw turn (omega arith) in
      let from : at n r ≡ step_a n i (home (suc m)) = ap (at n) here ∙ spot-a i 0 (omega arith) some-A ∙ ap (step_a n i) (at_home (suc x)) in
      let to : at n (suc r) ≡ step_a n (suc i) (home (suc m)) =
      ap (at n) there ∙ spot-a (suc i) 0 (omega arith) some-A ∙ ap (step_a n (suc i)) (at_home (suc x)) in
      rw (o, from, to) (hop_a-leads m i (omega arith) fits))

  -- ---- from each place of each block

  abbrev on : ℕ → ℕ → Move
  on i s = on_from n (next_move (suc m)) (next_move m) i s

  -- not from the end of a block
  inner-leads : (i s r : ℕ) → Among (suc m) i → suc s < size → r ≡ before i * size + s → Leads n (on i s) (at n r) (at n (suc r))
  unfolding on_from
  inner-leads i s r fits h e =
      either (test (odd i))
      (λ o.
      let here : r ≡ spot i s = rw o e in
      let there : suc r ≡ spot i (suc s) = rw o (omega arith) in
      rw (lt-ltb (suc s) size h, o) (rw (ap (at n) here, ap (at n) there) (inside-leads i s fits h)))
      (λ o.
      let u = from_end size (suc s) in
      let here : r ≡ spot i (suc u) = rw o (omega arith) in
      let there : suc r ≡ spot i u = rw o (omega arith) in
      rw (lt-ltb (suc s) size h, o) (rw (ap (at n) here, ap (at n) there) (leads-back (inside-leads i u fits (omega arith)))))

  -- from the end of a block: to the next, or from the last block round to rank 0
  end-leads : (i s r : ℕ) → Among (suc m) i → suc s ≡ size → suc r ≡ i * size → Leads n (on i s) (at n r) (at n (next_rank n r))
  unfolding on_from
  end-leads i s r fits h e =
      let all : count n ≡ suc m * size = count-blocks m in
      either (same? (suc i) n)
      (λ c.
      let top : i ≡ suc m = omega arith in
      let round : suc r ≡ count n = e ∙ ap (λ (y : ℕ). y * size) top ∙ sym all in
      rw (le-ltb (suc s) size (omega arith), eq-eqb (suc i) n c, next-round n r round)
      (rw (at_last m r round, at_home m) (closing-leads m)))
      (λ d.
      let room : suc i * size ≤ suc m * size = mul-le-mul_right size (omega arith) in
      let more : 0 < size = omega arith in
      rw (le-ltb (suc s) size (omega arith), ne_eqb (suc i) n d, next-on n r (omega arith)) (hop-leads i r (omega arith) e))

  onward : Onward n
  onward r h =
      let i = suc (r / size) in
      let s = r % size in
      let split : r / size * size + s ≡ r = div-add-mod' r size in
      let low : s < size = mod-lt r (per_block-pos m r h) in
      let fits : Among (suc m) i = block-among m r h in
      let room : i * size ≤ suc m * size = mul-le-mul_right size fits.1 in
      let all : count n ≡ suc m * size = count-blocks m in
      rw (move-rule x r)
      (either (below? (suc s) size)
      (λ a. rw (next-on n r (omega arith)) (inner-leads i s r fits a (sym split)))
      (λ a. end-leads i s r fits (omega arith) (omega arith)))

-- ---- every number of ports from 2 on

onward-2 : Onward 2
unfolding next_move
onward-2 r h =
    let e : suc r ≡ count 2 = omega (arith, count-2) in
    rw (next-round 2 r e) (rw (at_last 0 r e, at_home 0) (closing-leads 0))

pub turn-3 : Leads 3 (one (turn 1 2 3)) (at 3 0) (at 3 1)
unfolding at listing blocks block joined step_a step_b odd is trade raise lower tabulate source carry carry_all
turn-3 = record { long = refl; form = omega arith; makes = refl }

two-of-3 : count 3 ≡ 2
unfolding count
two-of-3 = refl

onward-3 : Onward 3
unfolding next_move
onward-3 r h =
    let two = two-of-3 in
    either (same? r 0)
    (λ e. rw e (rw (next-on 3 0 (omega arith)) turn-3))
    (λ d.
    let e : suc r ≡ count 3 = omega arith in
    rw (ne_eqb r 0 d, next-round 3 r e) (rw (at_last 1 r e, at_home 1) (closing-leads 1)))

-- one move in the paper's form leads from each rank to the next, and from the last to the first
pub next-leads : (m r : ℕ) → r < count (suc (suc m))
    → Leads (suc (suc m)) (next_move (suc (suc m)) r) (at (suc (suc m)) r) (at (suc (suc m)) (next_rank (suc (suc m)) r))
next-leads zero = onward-2
next-leads (suc zero) = onward-3
next-leads (suc (suc x)) = onward x (next-leads (suc x)) (next-leads x)

-- ---- backward

-- the rank before r: before rank 0 comes the last
pub previous-back : (n r : ℕ) → previous_rank n (suc r) ≡ r
unfolding previous_rank
previous-back n r = is-other (suc r) 0 (before (count n)) r (omega arith)

pub previous-round : (n : ℕ) → previous_rank n 0 ≡ before (count n)
unfolding previous_rank
previous-round n = is_same 0 0 (before (count n)) 0 refl

-- it is a rank, and r is the next after it
pub previous-below : (n r : ℕ) → r < count n → previous_rank n r < count n
previous-below n zero h = rw (previous-round n) (omega (arith, suc-before (count n) h))
previous-below n (suc r) h = rw (previous-back n r) (omega arith)

pub next-previous : (n r : ℕ) → r < count n → next_rank n (previous_rank n r) ≡ r
next-previous n zero h = rw (previous-round n) (next-round n (before (count n)) (suc-before (count n) h))
next-previous n (suc r) h = rw (previous-back n r) (next-on n r (omega arith))

-- and the rank after r is a rank, and r the previous before it
pub next-below : (n r : ℕ) → r < count n → next_rank n r < count n
next-below n r h =
    either (same? (suc r) (count n))
    (λ e. rw (next-round n r e) (omega arith))
    (λ d. rw (next-on n r d) (omega arith))

pub previous-next : (n r : ℕ) → r < count n → previous_rank n (next_rank n r) ≡ r
previous-next n r h =
    either (same? (suc r) (count n))
    (λ e. rw (next-round n r e) (previous-round n ∙ omega (arith, suc-before (count n) (omega arith))))
    (λ d. rw (next-on n r d) (previous-back n r))

-- one move in the paper's form leads from each rank to the previous, and from the first to the last: the inverse of the move that leads on from there
pub previous-leads : (m r : ℕ) → r < count (suc (suc m))
    → Leads (suc (suc m)) (previous_move (suc (suc m)) r) (at (suc (suc m)) r) (at (suc (suc m)) (previous_rank (suc (suc m)) r))
unfolding previous_move
previous-leads m r h =
    let n = suc (suc m) in
    let on = next-leads m (previous_rank n r) (previous-below n r h) in
    leads-back (rw (next-previous n r h) at on)

-- ---- either way, and no other move

-- one move leads from each rank to the one beside it
pub beside-leads : (m : ℕ) (back : Bool) (r : ℕ) → r < count (suc (suc m))
    → Leads (suc (suc m)) (move_beside (suc (suc m)) back r) (at (suc (suc m)) r) (at (suc (suc m)) (rank_beside (suc (suc m)) back r))
beside-leads m false r h = next-leads m r h
beside-leads m true r h = previous-leads m r h

-- and a move in the paper's form that leads there is that one
pub only-beside : (m : ℕ) (back : Bool) (r : ℕ) (v : Move) → r < count (suc (suc m))
    → Leads (suc (suc m)) v (at (suc (suc m)) r) (at (suc (suc m)) (rank_beside (suc (suc m)) back r)) → v ≡ move_beside (suc (suc m)) back r
only-beside m back r v h l = one-move (at-derangement (suc (suc m)) r h).permutation l (beside-leads m back r h)
