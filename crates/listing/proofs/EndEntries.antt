-- Home and the last pattern, jack by jack.
-- Assumes nothing.
use mathlib.Core.Path.{◌≡◌, ◌∙◌, refl}
use mathlib.Core.Logic.{◌≢◌, ◌⊎◌, inl, inr}
use mathlib.Core.Bool.{cond}
use Prim.Native.Nat.{ℕ, suc, ◌-◌, ◌≤◌, ◌<◌}
use native.Mathlib.Omega.{arith}
use lib.ListN.{length}
use Rattle.listing.specs.Numbers.{Among, is, odd}
use Rattle.listing.specs.Pattern.{entry}
use Rattle.listing.specs.Ends.{home, last}
use Rattle.listing.proofs.Numbers.{either, same?, is_same, is-other}
use Rattle.listing.proofs.Panels.{length-tabulate, entry-tabulate}

-- ---- home

pub length-home : (n : ℕ) → length (home n) ≡ n
unfolding home
length-home n = length-tabulate n _

-- each jack but the last holds the next port
pub home-low : (n j : ℕ) → Among n j → j ≢ n → entry (home n) j ≡ suc j
unfolding home
home-low n j h d = entry-tabulate n (λ k. is k n 1 (suc k)) j h ∙ is-other j n 1 (suc j) d

-- the last jack holds port 1
pub home-top : (n j : ℕ) → Among n j → j ≡ n → entry (home n) j ≡ 1
unfolding home
home-top n j h e = entry-tabulate n (λ k. is k n 1 (suc k)) j h ∙ is_same j n 1 (suc j) e

-- the one or the other
pub home-cases : (n j : ℕ) → Among n j → ((j < n) × (entry (home n) j ≡ suc j)) ⊎ ((j ≡ n) × (entry (home n) j ≡ 1))
home-cases n j h = either (same? j n) (λ e. inr (e, home-top n j h e)) (λ d. inl (omega arith, home-low n j h d))

-- ---- the last pattern

pub length_last : (n : ℕ) → length (last n) ≡ n
unfolding last
length_last n = length-tabulate n _

-- n = c + 2: (2, .., c, n, 1, c + 1) for odd n, (2, .., c, 1, n, c + 1) for even n
module _ (c : ℕ) (pos : 1 ≤ c) where
  abbrev n : ℕ
  n = suc (suc c)

  entry-last : (j : ℕ) → Among n j → entry (last n) j ≡ is j n (suc c) (is j (suc c) (cond (odd n) 1 n) (is j c (cond (odd n) n 1) (suc j)))
  unfolding last
  entry-last j h =
      let one_less : n - 1 ≡ suc c = omega arith in
      let two-less : n - 2 ≡ c = omega arith in
      entry-tabulate n _ j h ∙ rw (one_less, two-less)

  pub last-low : (j : ℕ) → 1 ≤ j → j < c → entry (last n) j ≡ suc j
  last-low j low h =
      entry-last j (omega arith) ∙ is-other j n _ _ (omega arith) ∙ is-other j (suc c) _ _ (omega arith) ∙ is-other j c _ _ (omega arith)

  pub last-third : entry (last n) c ≡ cond (odd n) n 1
  last-third = entry-last c (omega arith) ∙ is-other c n _ _ (omega arith) ∙ is-other c (suc c) _ _ (omega arith) ∙ is_same c c _ _ refl

  pub last-second : entry (last n) (suc c) ≡ cond (odd n) 1 n
  last-second = entry-last (suc c) (omega arith) ∙ is-other (suc c) n _ _ (omega arith) ∙ is_same (suc c) (suc c) _ _ refl

  pub last-top : entry (last n) n ≡ suc c
  last-top = entry-last n (omega arith) ∙ is_same n n _ _ refl
