-- The list begins at home and ends with `last` (Lemma 3 of document 000), and the paper's anchors: no pattern for 1, (2,1) alone for 2.
-- Assumes nothing.
use mathlib.Core.Path.{◌≡◌, refl, sym, ap, ◌∙◌}
use mathlib.Core.Bool.{true, false, cond}
use mathlib.Core.List.{List, [], ◌∷◌}
use Prim.Native.Nat.{ℕ, zero, suc, ◌+◌, ◌*◌, ◌<◌}
use native.Mathlib.Omega.{arith}
use lib.ListN.{length}
use Rattle.listing.specs.Numbers.{Among, is, trade, raise, lower, odd}
use Rattle.listing.specs.Pattern.{entry, tabulate}
use Rattle.listing.specs.Count.{count}
use Rattle.listing.specs.Steps.{by_a, by_b, step_a, step_b}
use Rattle.listing.specs.Listing.{joined, block, blocks, listing, at}
use Rattle.listing.specs.Rank.{per_block, place}
use Rattle.listing.specs.Ends.{home, last}
use Rattle.listing.proofs.Numbers.{either, below?, same?, test, raise-low, odd-next}
use Rattle.listing.proofs.Panels.{same_entries}
use Rattle.listing.proofs.StepEntries.{length-a, A-kept, A-held, A-last, length-b, B-at, B-last, B-raised}
use Rattle.listing.proofs.EndEntries.{length-home, home-low, home-top, length_last, last-low, last-third, last-second, last-top}
use Rattle.listing.proofs.Counts.{count-blocks, count-pos}
use Rattle.listing.proofs.Places.{at_place}

-- ---- the anchors

pub listing-1 : listing 1 ≡ []
unfolding listing
listing-1 = refl

pub listing-2 : listing 2 ≡ (2 ∷ 1 ∷ []) ∷ []
unfolding listing blocks block joined step_a step_b odd is trade raise lower tabulate
listing-2 = refl

-- ---- the first pattern

-- A(1) of home is home with one port more
home-step : (m : ℕ) → step_a (suc (suc m)) 1 (home (suc m)) ≡ home (suc (suc m))
home-step m =
    let n = suc (suc m) in
    let t = home (suc m) in
    let len : length (step_a n 1 t) ≡ n = length-a n 1 t in
    same_entries (step_a n 1 t) (home n) (len ∙ sym (length-home n)) (λ j h.
    either (same? j n)
    (λ e. rw e (A-last n 1 t (omega arith) ∙ sym (home-top n n (omega arith) refl)))
    (λ d.
    let here : entry (home n) j ≡ suc j = home-low n j (omega arith) d in
    either (same? j (suc m))
    (λ e. A-held n 1 t j (omega arith) d (home-top (suc m) j (omega arith) e) ∙ omega arith)
    (λ f.
    let there : entry t j ≡ suc j = home-low (suc m) j (omega arith) f in
    A-kept n 1 t j (omega arith) d (omega arith) ∙ there ∙ sym here)))

first-2 : at 2 0 ≡ home 2
unfolding at listing blocks block joined step_a step_b odd is trade raise lower tabulate home
first-2 = refl

odd-1 : odd 1 ≡ true
unfolding odd
odd-1 = refl

-- rank 0 is the home
pub at_home : (m : ℕ) → at (suc (suc m)) 0 ≡ home (suc (suc m))
unfolding place
at_home zero = first-2
at_home (suc m) =
    let n = suc (suc (suc m)) in
    let e : 0 * per_block n + 0 ≡ 0 = omega arith in
    (rw (odd-1, e) at (at_place by_a (suc m) 1 0 (omega arith) (count-pos m)))
    ∙ ap (step_a n 1) (at_home m)
    ∙ home-step (suc m)

-- ---- the last pattern, for x + 3 ports

-- a pattern that has these entries is the last
is_last : (x : ℕ) (p : List ℕ) → length p ≡ suc (suc (suc x)) → ((j : ℕ) → Among x j → entry p j ≡ suc j)
    → entry p (suc x) ≡ cond (odd (suc (suc (suc x)))) (suc (suc (suc x))) 1
    → entry p (suc (suc x)) ≡ cond (odd (suc (suc (suc x)))) 1 (suc (suc (suc x)))
    → entry p (suc (suc (suc x))) ≡ suc (suc x) → p ≡ last (suc (suc (suc x)))
is_last x p long low third second end =
    same_entries p (last (suc (suc (suc x)))) (long ∙ sym (length_last (suc (suc (suc x))))) (λ j h.
    either (below? x j)
    (λ a.
    either (below? (suc x) j)
    (λ b.
    either (below? (suc (suc x)) j)
    (λ c. let e : j ≡ suc (suc (suc x)) = omega arith in rw e (end ∙ sym (last-top (suc x) (omega arith))))
    (λ c. let e : j ≡ suc (suc x) = omega arith in rw e (second ∙ sym (last-second (suc x) (omega arith)))))
    (λ b. let e : j ≡ suc x = omega arith in rw e (third ∙ sym (last-third (suc x) (omega arith)))))
    (λ a. low j (omega arith) ∙ sym (last-low (suc x) (omega arith) j (omega arith) (omega arith))))

-- for odd n it is A(n-1) of home
last-by-a : (x : ℕ) → odd (suc (suc x)) ≡ false → step_a (suc (suc (suc x))) (suc (suc x)) (home (suc (suc x))) ≡ last (suc (suc (suc x)))
last-by-a x even =
    let n = suc (suc (suc x)) in
    let i = suc (suc x) in
    let t = home i in
    let odd-n : odd n ≡ true = odd-next i ∙ rw even in
    is_last x (step_a n i t) (length-a n i t)
    (λ j h. let e = home-low i j (omega arith) (omega arith) in A-kept n i t j (omega arith) (omega arith) (omega arith) ∙ e)
    (rw odd-n (A-held n i t (suc x) (omega arith) (omega arith) (home-low i (suc x) (omega arith) (omega arith))))
    (rw odd-n (A-kept n i t i (omega arith) (omega arith) (omega (arith, home-top i i (omega arith) refl)) ∙ home-top i i (omega arith) refl))
    (A-last n i t (omega arith))

-- for even n it is B(n-1) of home
last-by-b : (x : ℕ) → odd (suc (suc x)) ≡ true → step_b (suc (suc (suc x))) (suc (suc x)) (home (suc x)) ≡ last (suc (suc (suc x)))
last-by-b x is_odd =
    let n = suc (suc (suc x)) in
    let i = suc (suc x) in
    let t = home (suc x) in
    let even-n : odd n ≡ false = odd-next i ∙ rw is_odd in
    let kept : (j : ℕ) → Among (suc x) j → entry (step_b n i t) j ≡ raise i (entry t j) = λ j h.
    let low : raise i j ≡ j = raise-low i j (omega arith) in rw low at (B-raised n i t j (omega arith) (omega arith)) in
    is_last x (step_b n i t) (length-b n i t)
    (λ j h. kept j (omega arith) ∙ ap (raise i) (home-low (suc x) j (omega arith) (omega arith)) ∙ raise-low i (suc j) (omega arith))
    (rw even-n (kept (suc x) (omega arith) ∙ ap (raise i) (home-top (suc x) (suc x) (omega arith) refl) ∙ raise-low i 1 (omega arith)))
    (rw even-n (B-at n i t (omega arith) (omega arith)))
    (B-last n i t (omega arith))

-- ---- the last rank

-- rank 0 of a shorter list, in the last block: by A if the block is even, by B if it is odd
place-a-last : (m r : ℕ) → odd (suc m) ≡ false → 0 < count (suc m) → suc r ≡ count (suc (suc m)) → r ≡ place by_a (suc (suc m)) (suc m) 0
unfolding place
place-a-last m r even pos e = rw even (omega (arith, count-blocks m))

place-b-last : (m r : ℕ) → odd (suc m) ≡ true → 0 < count m → suc r ≡ count (suc (suc m)) → r ≡ place by_b (suc (suc m)) (suc m) 0
unfolding place
place-b-last m r is_odd pos e = rw is_odd (omega (arith, count-blocks m))

last-2 : (r : ℕ) → suc r ≡ count 2 → at 2 r ≡ last 2
unfolding count at listing blocks block joined step_a step_b odd is trade raise lower tabulate last
last-2 r e = let z : r ≡ 0 = omega arith in rw z

last-3 : (r : ℕ) → suc r ≡ count 3 → at 3 r ≡ last 3
unfolding count at listing blocks block joined step_a step_b odd is trade raise lower tabulate last
last-3 r e = let z : r ≡ 1 = omega arith in rw z

-- the last rank is the last pattern
pub at_last : (m r : ℕ) → suc r ≡ count (suc (suc m)) → at (suc (suc m)) r ≡ last (suc (suc m))
at_last zero r e = last-2 r e
at_last (suc zero) r e = last-3 r e
at_last (suc (suc x)) r e =
    let n = suc (suc (suc (suc x))) in
    let i = suc (suc (suc x)) in
    either (test (odd i))
    (λ o.
    ap (at n) (place-b-last (suc (suc x)) r o (count-pos x) e)
    ∙ at_place by_b (suc (suc x)) i 0 (omega arith) (count-pos x)
    ∙ ap (step_b n i) (at_home x)
    ∙ last-by-b (suc x) o)
    (λ o.
    ap (at n) (place-a-last (suc (suc x)) r o (count-pos (suc x)) e)
    ∙ at_place by_a (suc (suc x)) i 0 (omega arith) (count-pos (suc x))
    ∙ ap (step_a n i) (at_home (suc x))
    ∙ last-by-a (suc x) o)
