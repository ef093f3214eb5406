-- From block to block, and round the circuit: relations (3) and (5) of document 000, and the step from the last pattern to the first.
-- A hop is what remains of the two orders that make both patterns of home with port n added.
-- Assumes nothing.
use mathlib.Core.Path.{◌≡◌, refl, sym, ◌∙◌}
use mathlib.Core.Logic.{◌≢◌}
use mathlib.Core.Bool.{Bool, true, false}
use mathlib.Core.List.{List, [], ◌∷◌}
use Prim.Native.Nat.{ℕ, zero, suc, ◌+◌, ◌-◌, ◌≤◌}
use native.Mathlib.Omega.{arith}
use lib.ListN.{length}
use Rattle.listing.specs.Numbers.{Among, is, odd}
use Rattle.listing.specs.Pattern.{entry, tabulate}
use Rattle.listing.specs.Steps.{step_a, step_b}
use Rattle.listing.specs.Ends.{home, last}
use Rattle.listing.specs.Orders.{Order, swap, turn, source, carry, carry_all, one, Leads}
use Rattle.listing.specs.Joins.{hop_a, hop_b, closing}
use Rattle.listing.proofs.Numbers.{either, same?}
use Rattle.listing.proofs.Panels.{carries-to}
use Rattle.listing.proofs.Sources.{by-swap, by_turn}
use Rattle.listing.proofs.Renamed.{EachOf, on, plain, same-orders}
use Rattle.listing.proofs.StepEntries.{length-a, length-b}
use Rattle.listing.proofs.EndEntries.{length-home, home-low, home-top, length_last, last-low, last-third, last-second, last-top}
use Rattle.listing.proofs.Homes.{Holds, home-holds, home-holds-one, added, length-added, A-swap, B-turn}
use Rattle.listing.proofs.Rows.{hop_a-one, hop_a-more, hop_b-one, hop_b-more, closing-two, closing-odd, closing-even}

-- ---- relations (5) and (3)

-- x holds i, and jack i holds i + 1. The orders are on x, i and n in the place of 1, 2, 3
hop-a : (m i x : ℕ) → Among m i → x ≢ i → Holds (suc m) (home (suc m)) x i → (os : List Order) → EachOf (Among 3) os
    → carry_all (swap 1 3 ∷ os) (plain 3) ≡ carry_all (swap 2 3 ∷ []) (plain 3)
    → carry_all (on (x ∷ i ∷ suc (suc m) ∷ []) os) (step_a (suc (suc m)) i (home (suc m))) ≡ step_a (suc (suc m)) (suc i) (home (suc m))
unfolding carry_all
hop-a m i x hi ne holds os e same =
    let n : ℕ = suc (suc m) in
    let w : List ℕ = x ∷ i ∷ n ∷ [] in
    let hx : Among (suc m) x = holds.among in
    rw (← A-swap m i x (home (suc m)) holds, ← A-swap m (suc i) i (home (suc m)) (home-holds (suc m) i (omega arith) (omega arith)))
    (same-orders n w (omega arith) (swap 1 3 ∷ os) (swap 2 3 ∷ []) (omega arith, e) (omega arith) same
    (added n (home (suc m))) (length-added n (home (suc m))))

-- the same on x, i, i + 1 and n in the place of 1, 2, 3, 4
hop-b : (m i x : ℕ) → Among m i → x ≢ i → x ≢ suc i → Holds (suc m) (home (suc m)) x i → (os : List Order) → EachOf (Among 4) os
    → carry_all (turn 1 2 4 ∷ os) (plain 4) ≡ carry_all (turn 2 3 4 ∷ []) (plain 4)
    → carry_all (on (x ∷ i ∷ suc i ∷ suc (suc m) ∷ []) os) (step_b (suc (suc m)) i (home m)) ≡ step_b (suc (suc m)) (suc i) (home m)
unfolding carry_all
hop-b m i x hi ne next holds os e same =
    let n : ℕ = suc (suc m) in
    let w : List ℕ = x ∷ i ∷ suc i ∷ n ∷ [] in
    let hx : Among (suc m) x = holds.among in
    rw (← B-turn m i x (omega arith) ne holds, ← B-turn m (suc i) i (omega arith) (omega arith) (home-holds (suc m) i (omega arith) (omega arith)))
    (same-orders n w (omega arith) (turn 1 2 4 ∷ os) (turn 2 3 4 ∷ []) (omega arith, e) (omega arith) same
    (added n (home (suc m))) (length-added n (home (suc m))))

-- relation (5): from A(i) to A(i+1)
pub hop_a-leads : (m i : ℕ) → 1 ≤ m → Among m i
    → Leads (suc (suc m)) (hop_a (suc (suc m)) i) (step_a (suc (suc m)) i (home (suc m))) (step_a (suc (suc m)) (suc i) (home (suc m)))
unfolding carry_all carry plain tabulate source is
hop_a-leads m zero big h = absurd (omega arith)
hop_a-leads m (suc zero) big h =
    let n : ℕ = suc (suc m) in
    let less : n - 1 ≡ suc m = omega arith in
    rw (hop_a-one n 1 refl, less)
    record {
      long = length-a n 1 (home (suc m));
      form = omega arith;
      makes = hop-a m 1 (suc m) h (omega arith) (home-holds-one (suc m) (omega arith)) (turn 2 1 3 ∷ []) (omega arith) refl;
    }
hop_a-leads m (suc (suc h)) big hi =
    let n : ℕ = suc (suc m) in
    let i : ℕ = suc (suc h) in
    let less : i - 1 ≡ suc h = omega arith in
    rw (hop_a-more n i (omega arith), less)
    record {
      long = length-a n i (home (suc m));
      form = omega arith;
      makes = hop-a m i (suc h) hi (omega arith) (home-holds (suc m) (suc h) (omega arith) (omega arith)) (turn 1 3 2 ∷ []) (omega arith) refl;
    }

-- relation (3): from B(i) to B(i+1)
pub hop_b-leads : (m i : ℕ) → 2 ≤ m → Among m i
    → Leads (suc (suc m)) (hop_b (suc (suc m)) i) (step_b (suc (suc m)) i (home m)) (step_b (suc (suc m)) (suc i) (home m))
unfolding carry_all carry plain tabulate source is
hop_b-leads m zero big h = absurd (omega arith)
hop_b-leads m (suc zero) big h =
    let n : ℕ = suc (suc m) in
    let less : n - 1 ≡ suc m = omega arith in
    rw (hop_b-one n 1 refl, less)
    record {
      long = length-b n 1 (home m);
      form = omega arith;
      makes = hop-b m 1 (suc m) h (omega arith) (omega arith) (home-holds-one (suc m) (omega arith)) (swap 2 3 ∷ swap 1 4 ∷ []) (omega arith) refl;
    }
hop_b-leads m (suc (suc h)) big hi =
    let n : ℕ = suc (suc m) in
    let i : ℕ = suc (suc h) in
    let less : i - 1 ≡ suc h = omega arith in
    let more : i + 1 ≡ suc i = omega arith in
    rw (hop_b-more n i (omega arith), less, more)
    record {
      long = length-b n i (home m);
      form = omega arith;
      makes =
          hop-b m i (suc h) hi (omega arith) (omega arith) (home-holds (suc m) (suc h) (omega arith) (omega arith))
          (swap 1 4 ∷ swap 2 3 ∷ []) (omega arith) refl;
    }

-- ---- from the last pattern to the first

-- for 2 ports the last pattern is the first
pub last-two : carry_all [] (last 2) ≡ home 2
unfolding carry_all last home tabulate is odd
last-two = refl

-- n = c + 2
module _ (c : ℕ) (pos : 1 ≤ c) where
  abbrev n : ℕ
  n = suc (suc c)

  -- one turn closes the circuit for odd n, one swap for even n
  pub closes-odd : odd n ≡ true → carry (turn c n (suc c)) (last n) ≡ home n
  closes-odd b =
      let len : length (last n) ≡ n = length_last n in
      carries-to (turn c n (suc c)) (last n) (home n) (length-home n ∙ sym len) (λ j h.
      by_turn (λ k. entry (last n) k ≡ entry (home n) j) c n (suc c) j
      (λ e. rw e (last-top c pos ∙ sym (home-low n c (omega arith) (omega arith))))
      (λ x e. rw e (last-second c pos ∙ rw b (sym (home-top n n (omega arith) refl))))
      (λ x y e. rw e (last-third c pos ∙ rw b (sym (home-low n (suc c) (omega arith) (omega arith)))))
      (λ x y z. last-low c pos j (omega arith) (omega arith) ∙ sym (home-low n j (omega arith) (omega arith))))

  pub closes-even : odd n ≡ false → carry (swap c n) (last n) ≡ home n
  closes-even b =
      let len : length (last n) ≡ n = length_last n in
      carries-to (swap c n) (last n) (home n) (length-home n ∙ sym len) (λ j h.
      by-swap (λ k. entry (last n) k ≡ entry (home n) j) c n j
      (λ e. rw e (last-top c pos ∙ sym (home-low n c (omega arith) (omega arith))))
      (λ x e. rw e (last-third c pos ∙ rw b (sym (home-top n n (omega arith) refl))))
      (λ x y. either (same? j (suc c))
      (λ e. rw e (last-second c pos ∙ rw b (sym (home-low n (suc c) (omega arith) (omega arith)))))
      (λ z. last-low c pos j (omega arith) (omega arith) ∙ sym (home-low n j (omega arith) (omega arith)))))

  -- the closing move in c
  pub closing-turn : odd n ≡ true → closing n ≡ one (turn c n (suc c))
  closing-turn b =
      let one_less : n - 1 ≡ suc c = omega arith in
      let two-less : n - 2 ≡ c = omega arith in
      closing-odd n (omega arith) b ∙ rw (two-less, one_less)

  pub closing-swap : odd n ≡ false → closing n ≡ one (swap c n)
  closing-swap b =
      let two-less : n - 2 ≡ c = omega arith in
      closing-even n (omega arith) b ∙ rw two-less
