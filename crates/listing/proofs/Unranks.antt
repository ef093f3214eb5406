-- `unrank`, by recursion on the number of ports, gives the pattern that the list has at the rank.
-- Assumes nothing.
use mathlib.Core.Path.{◌≡◌, sym, ap, ◌∙◌}
use Prim.Native.Nat.{ℕ, suc, ◌+◌, ◌*◌, ◌-◌, ◌/◌, ◌%◌, ◌<◌}
use native.Mathlib.Nat.{not-suc-le-zero, mod-lt, div-add-mod'}
use native.Mathlib.Omega.{arith}
use borrow.Author.Tests.{lt-ltb, le-ltb}
use Rattle.listing.specs.Numbers.{odd}
use Rattle.listing.specs.Count.{count}
use Rattle.listing.specs.Steps.{by_a, by_b, step_a, step_b}
use Rattle.listing.specs.Listing.{listing, at}
use Rattle.listing.specs.Rank.{from_end, per_block, turned, place, unrank}
use Rattle.listing.proofs.Numbers.{either, below?}
use Rattle.listing.proofs.Shorter.{shorter-first}
use Rattle.listing.proofs.Places.{turned-twice, turned-below, at_place}
use Rattle.listing.proofs.Ranks.{per_block-pos, block-among}

pub unrank-at : (n r : ℕ) → r < count n → unrank n r ≡ at n r
unfolding unrank count at listing place
unrank-at =
    shorter-first (λ n. (r : ℕ) → r < count n → unrank n r ≡ at n r)
    (λ r h. let e : r ≡ 0 = omega arith in rw e)
    (λ r h. absurd (not-suc-le-zero h))
    (λ m shorter-ones r h.
    let n = suc (suc m) in
    let size = per_block n in
    let i = suc (r / size) in
    let low : r % size < size = mod-lt r (per_block-pos m r h) in
    let u = turned (odd i) size (r % size) in
    let inside : u < size = turned-below (odd i) size (r % size) low in
    let there : r / size * size + turned (odd i) size u ≡ r =
    ap (λ (x : ℕ). r / size * size + x) (turned-twice (odd i) size (r % size) low) ∙ div-add-mod' r size in
    either (below? u (count (suc m)))
    (λ b.
    rw (lt-ltb u (count (suc m)) b)
    (ap (step_a n i) (shorter-ones by_a u b) ∙ sym (at_place by_a m i u (block-among m r h) b) ∙ ap (at n) there))
    (λ b.
    let s = from_end (count m) (u - count (suc m)) in
    let hs : s < count m = omega arith in
    let e : count (suc m) + from_end (count m) s ≡ u = omega arith in
    rw (le-ltb u (count (suc m)) b)
    (ap (step_b n i) (shorter-ones by_b s hs)
    ∙ sym (at_place by_b m i s (block-among m r h) hs)
    ∙ ap (λ (x : ℕ). at n (r / size * size + turned (odd i) size x)) e
    ∙ ap (at n) there)))
