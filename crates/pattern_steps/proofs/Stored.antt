-- The steps in place as the code makes them: its stores, by its own numbers, are those of the laws.
-- Assumes nothing.
use mathlib.Core.Path.{◌≡◌, sym, ◌∙◌}
use mathlib.Core.List.{List}
use Prim.Native.Nat.{ℕ, zero, suc, ◌+◌, ◌-◌, ◌≤◌, ◌<◌}
use native.Mathlib.Numerals.{add-one}
use native.Mathlib.Omega.{arith}
use lib.ListN.{length, take, set}
use Rattle.listing.specs.Numbers.{Among, raise, lower}
use Rattle.listing.specs.Pattern.{entry, Permutation, Derangement}
use Rattle.listing.specs.Steps.{by_step_b, by_back_b, step_a, un_b}
use Rattle.listing.specs.Limits.{most_ports}
use Rattle.listing.proofs.Numbers.{from-two, raise-near}
use Rattle.listing.proofs.Panels.{entry-front}
use Rattle.listing_course.specs.InPlace.{Raising, Lowering}
use Rattle.listing_course.proofs.InPlace.{A-stored, changed, raising-port, lowering-start, lowering-port, lowering-end}
use Rattle.pattern_check.specs.Faults.{seek}
use Rattle.pattern_carry.proofs.Held.{held}
use Rattle.pattern_steps.specs.Steps.{LeftFit}

-- ---- A(i)

module _ {m i j : ℕ} (a : List ℕ) (D : Derangement m (take m a)) (fits : Among m i) (e : j ≡ seek (take m a) i 1 (length (take m a))) where
  found : Among m j × (entry (take m a) j ≡ i)
  found =
      let long = D.permutation.long in
      let whole : Permutation (length (take m a)) (take m a) = rw long D.permutation in
      let h = held (take m a) whole i (rw long fits) in
      rw e (omega (arith, h.0), h.1)

  -- a jack holds i
  pub A-jack : Among m j
  A-jack = found.0

  pub A-made : suc m ≤ length a → take (suc m) (set (set a (j - 1) (m + 1)) m i) ≡ step_a (suc m) i (take m a)
  A-made room =
      let holds = entry-front m a j found.0 ∙ found.1 in
      rw add-one (A-stored a (j - 1) D.permutation room (omega (arith, found.0)) holds)

-- ---- B(i)

-- the ports that are left fit
pub left-fit : (m i j : ℕ) (t a : List ℕ) → Derangement m t → m ≤ most_ports → Raising (suc (suc m)) i t j a → LeftFit m j a
left-fit m i j t a D h s zero b k = omega arith
left-fit m i j t a D h s (suc x) b k = rw (s.left (suc x) (b, k)) (omega (arith, D.permutation.ports (suc x) (omega arith)))

-- one turn, down from jack j
pub raised-on : (m i j v : ℕ) (t a : List ℕ) → Raising (suc (suc m)) i t j a → Among (suc m) i → Among (suc (suc m)) j → suc (suc m) ≤ length a
    → v ≡ by_step_b (suc (suc m)) i a j → Raising (suc (suc m)) i t (j - 1) (set a (j - 1) v)
raised-on m i j v t a s fits h room e =
    let y : suc (j - 1) ≡ j = omega arith in
    changed (j - 1) v s (omega arith) (rw y (e ∙ raising-port m i j t a s fits h)) (λ x k d. omega arith) (λ x k. omega arith)

-- ---- back from B

-- one turn, on from jack j
pub lowered-on : (n j i v : ℕ) (p a : List ℕ) → 2 ≤ n → Lowering n p j a → i ≡ entry p n → j < n - 2 → n ≤ length a
    → v ≡ lower i (entry a (raise i (j + 1))) → Lowering n p (j + 1) (set a j v)
lowered-on n j i v p a two =
    from-two
    (λ n. Lowering n p j a → i ≡ entry p n → j < n - 2 → n ≤ length a → v ≡ lower i (entry a (raise i (j + 1))) → Lowering n p (j + 1) (set a j v))
    (λ m s ei h room e.
    let l : entry a (suc (suc m)) ≡ i = s.left (suc (suc m)) (omega arith) ∙ sym ei in
    let value : v ≡ by_back_b (suc (suc m)) p (suc j) = rw (← l, add-one) at e ∙ lowering-port m j p a s (omega arith) in
    rw add-one (changed j v s (omega arith) value (λ x k d. omega arith) (λ x k. omega arith)))
    n two

-- at first, and at the end
pub lowered-begin : (n : ℕ) (a : List ℕ) → 2 ≤ n → Lowering n (take n a) 0 a
lowered-begin n a = from-two (λ n. Lowering n (take n a) 0 a) (λ m. lowering-start m a) n

pub lowered-done : (n j : ℕ) (p a : List ℕ) → 2 ≤ n → Lowering n p j a → j ≡ n - 2 → n ≤ length a → take (n - 2) a ≡ un_b n p
lowered-done n j p a two =
    from-two (λ n. Lowering n p j a → j ≡ n - 2 → n ≤ length a → take (n - 2) a ≡ un_b n p)
    (λ m s e room.
    let z : suc (suc m) - 2 ≡ m = omega arith in
    let s' = rw (e, z) at s in
    rw z (lowering-end m p a s' (omega arith)))
    n two

-- the jack that a port comes from is one of n
pub from-jack : (n i j : ℕ) → j < n - 2 → Among n (raise i (j + 1))
from-jack n i j h = omega (arith, raise-near i (j + 1))
