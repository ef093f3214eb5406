-- Home, and the patterns that A(i) and B(i) make of it: with port n added on jack n, home becomes A(i) of home by one swap and B(i) of home by one turn.
-- Assumes nothing.
use mathlib.Core.Path.{◌≡◌, refl, sym, ◌∙◌}
use mathlib.Core.Logic.{◌≢◌}
use mathlib.Core.List.{List}
use Prim.Native.Nat.{ℕ, suc, ◌≤◌, ◌<◌}
use native.Mathlib.Omega.{arith}
use lib.ListN.{length}
use Rattle.listing.specs.Numbers.{Among, is, trade, raise, lower}
use Rattle.listing.specs.Pattern.{entry, tabulate}
use Rattle.listing.specs.Steps.{step_a, step_b}
use Rattle.listing.specs.Ends.{home}
use Rattle.listing.specs.Orders.{swap, turn, carry}
use Rattle.listing.proofs.Numbers.{either, is_same, is-other, trade-cases, raise-cases, raise-low, raise-high, raise-lower, lower-among}
use Rattle.listing.proofs.Panels.{length-tabulate, entry-tabulate, carries-to}
use Rattle.listing.proofs.Sources.{by-swap, by_turn}
use Rattle.listing.proofs.StepEntries.{length-a, A-kept, A-held, A-last, length-b, B-at, B-last, B-raised}
use Rattle.listing.proofs.EndEntries.{home-low, home-top, home-cases}

-- ---- who holds a port

-- jack x of t, and no other, holds port i
pub record Holds (n : ℕ) (t : List ℕ) (x i : ℕ) : Type 0 where
  pub among : Among n x
  pub here : entry t x ≡ i
  pub only : (j : ℕ) → Among n j → entry t j ≡ i → j ≡ x

-- port x + 1 is on jack x
pub home-holds : (n x : ℕ) → 1 ≤ x → x < n → Holds n (home n) x (suc x)
home-holds n x low h =
    record {
      among = omega arith;
      here = home-low n x (omega arith) (omega arith);
      only = λ j hj e. either (home-cases n j hj) (λ c. omega arith) (λ c. omega arith);
    }

-- port 1 is on the last jack
pub home-holds-one : (n : ℕ) → 1 ≤ n → Holds n (home n) n 1
home-holds-one n h =
    record {
      among = omega arith;
      here = home-top n n (omega arith) refl;
      only = λ j hj e. either (home-cases n j hj) (λ c. omega arith) (λ c. c.0);
    }

-- ---- A(i) and B(i) from a panel with port n on jack n

-- t with port n added on jack n
unfoldable pub added : ℕ → List ℕ → List ℕ
added n t = tabulate n (λ j. is j n n (entry t j))

pub length-added : (n : ℕ) (t : List ℕ) → length (added n t) ≡ n
unfolding added
length-added n t = length-tabulate n _

added-low : (n : ℕ) (t : List ℕ) (j : ℕ) → Among n j → j ≢ n → entry (added n t) j ≡ entry t j
unfolding added
added-low n t j h ne = entry-tabulate n (λ k. is k n n (entry t k)) j h ∙ is-other j n n _ ne

added-top : (n : ℕ) (t : List ℕ) → 1 ≤ n → entry (added n t) n ≡ n
unfolding added
added-top n t h = entry-tabulate n (λ k. is k n n (entry t k)) n (omega arith) ∙ is_same n n n _ refl

-- A(i): jack n is swapped with the jack that holds i
pub A-swap : (m i x : ℕ) (t : List ℕ) → Holds (suc m) t x i → carry (swap x (suc (suc m))) (added (suc (suc m)) t) ≡ step_a (suc (suc m)) i t
A-swap m i x t holds =
    let n : ℕ = suc (suc m) in
    let len : length (added n t) ≡ n = length-added n t in
    let hx : Among (suc m) x = holds.among in
    carries-to (swap x n) (added n t) (step_a n i t) (length-a n i t ∙ sym len) (λ j h.
    by-swap (λ k. entry (added n t) k ≡ entry (step_a n i t) j) x n j
    (λ e. rw e (added-top n t (omega arith) ∙ sym (A-held n i t x (omega arith) (omega arith) holds.here)))
    (λ nx e. rw e (added-low n t x (omega arith) (omega arith) ∙ holds.here ∙ sym (A-last n i t (omega arith))))
    (λ nx nn. added-low n t j (omega arith) nn
    ∙ sym (A-kept n i t j (omega arith) nn (λ e. nx (holds.only j (omega arith) e)))))

-- home of m with room made for i is home of m + 1 with i left out: the port after i in the place of i
home-raised : (m i u : ℕ) → Among (suc m) i → Among m u
    → raise i (entry (home m) u) ≡ trade i (entry (home (suc m)) i) (entry (home (suc m)) (raise i u))
home-raised m i u hi hu =
    let after : ℕ = entry (home (suc m)) i in
    either (raise-cases i u)
    (λ c. rw (c.1, home-low (suc m) u (omega arith) (omega arith)) (either (trade-cases i after (suc u))
    (λ t. either (home-cases m u hu)
    (λ d. rw d.1 (omega (arith, raise-high i (suc u) (omega arith), home-low (suc m) i (omega arith) (omega arith))))
    (λ d. rw d.1 (omega (arith, raise-low i 1 (omega arith), home-top (suc m) i (omega arith) (omega arith)))))
    (λ t. rw (home-low m u (omega arith) (omega arith)) (omega (arith, raise-low i (suc u) (omega arith))))))
    (λ c. rw c.1 (either (home-cases m u hu)
    (λ d. rw (d.1, home-low (suc m) (suc u) (omega arith) (omega arith)) (either (trade-cases i after (suc (suc u)))
    (λ t. omega arith)
    (λ t. omega (arith, raise-high i (suc u) (omega arith)))))
    (λ d. rw (d.1, home-top (suc m) (suc u) (omega arith) (omega arith)) (either (trade-cases i after 1)
    (λ t. omega (arith, raise-high i 1 (omega arith), home-low (suc m) i (omega arith) (omega arith)))
    (λ t. omega (arith, raise-low i 1 (omega arith)))))))

-- so B(i) of home has, at each jack but i and n, the port that home has there, the port after i in the place of i
B-home : (m i j : ℕ) → Among (suc m) i → Among (suc m) j → j ≢ i
    → entry (step_b (suc (suc m)) i (home m)) j ≡ trade i (entry (home (suc m)) i) (entry (home (suc m)) j)
B-home m i j hi hj ne =
    let u : ℕ = lower i j in
    let hu : Among m u = lower-among m i j hi hj ne in
    let e : raise i u ≡ j = raise-lower i j ne in
    rw (← e) (B-raised (suc (suc m)) i (home m) u (omega arith) (omega arith) ∙ home-raised m i u hi hu)

-- B(i): jack n gets i from its holder, the holder what jack i held, jack i gets n
pub B-turn : (m i x : ℕ) → Among (suc m) i → x ≢ i → Holds (suc m) (home (suc m)) x i
    → carry (turn x i (suc (suc m))) (added (suc (suc m)) (home (suc m))) ≡ step_b (suc (suc m)) i (home m)
unfolding trade
B-turn m i x hi ne holds =
    let n : ℕ = suc (suc m) in
    let t : List ℕ = home (suc m) in
    let len : length (added n t) ≡ n = length-added n t in
    let hx : Among (suc m) x = holds.among in
    carries-to (turn x i n) (added n t) (step_b n i (home m)) (length-b n i (home m) ∙ sym len) (λ j h.
    by_turn (λ k. entry (added n t) k ≡ entry (step_b n i (home m)) j) x i n j
    (λ e. rw e (added-low n t i (omega arith) (omega arith) ∙ sym (B-home m i x hi hx ne ∙ is_same (entry t x) i _ _ holds.here)))
    (λ nx e. rw e (added-top n t (omega arith) ∙ sym (B-at n i (home m) (omega arith) (omega arith))))
    (λ nx ni e. rw e (added-low n t x (omega arith) (omega arith) ∙ holds.here ∙ sym (B-last n i (home m) (omega arith))))
    (λ nx ni nn. let hj : Among (suc m) j = omega arith in
    added-low n t j (omega arith) nn ∙ sym (B-home m i j hi hj ni ∙ is-other (entry t j) i _ _ (λ e. nx (holds.only j hj e)))))
