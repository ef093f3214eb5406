-- The entries of a pattern that A(i) or B(i) makes, jack by jack.
-- Assumes nothing.
use mathlib.Core.Path.{◌≡◌, refl, ap, ◌∙◌}
use mathlib.Core.Logic.{◌≢◌}
use mathlib.Core.List.{List}
use Prim.Native.Nat.{ℕ, ◌≤◌}
use native.Mathlib.Omega.{arith}
use lib.ListN.{length}
use Rattle.listing.specs.Numbers.{Among, is, trade, raise, lower}
use Rattle.listing.specs.Pattern.{entry}
use Rattle.listing.specs.Steps.{step_a, step_b}
use Rattle.listing.proofs.Numbers.{is_same, is-other, raise-near, lower-raise}
use Rattle.listing.proofs.Panels.{length-tabulate, entry-tabulate}

-- ---- A(i)

value_a : ℕ → ℕ → List ℕ → ℕ → ℕ
value_a n i t j = is j n i (trade i n (entry t j))

pub length-a : (n i : ℕ) (t : List ℕ) → length (step_a n i t) ≡ n
unfolding step_a
length-a n i t = length-tabulate n _

at-a : (n i : ℕ) (t : List ℕ) (j : ℕ) → Among n j → entry (step_a n i t) j ≡ value_a n i t j
unfolding step_a value_a
at-a n i t j h = entry-tabulate n (value_a n i t) j h

-- what the shorter pattern has at jack j stands there, n for i
pub A-other : (n i : ℕ) (t : List ℕ) (j : ℕ) → Among n j → j ≢ n → entry (step_a n i t) j ≡ trade i n (entry t j)
unfolding value_a
A-other n i t j h nn = at-a n i t j h ∙ is-other j n i _ nn

-- a port other than i keeps its jack
pub A-kept : (n i : ℕ) (t : List ℕ) (j : ℕ) → Among n j → j ≢ n → entry t j ≢ i → entry (step_a n i t) j ≡ entry t j
unfolding trade
A-kept n i t j h nn ni = A-other n i t j h nn ∙ is-other (entry t j) i n _ ni

-- n stands where port i was
pub A-held : (n i : ℕ) (t : List ℕ) (j : ℕ) → Among n j → j ≢ n → entry t j ≡ i → entry (step_a n i t) j ≡ n
unfolding trade
A-held n i t j h nn e = A-other n i t j h nn ∙ is_same (entry t j) i n _ e

-- i stands at jack n
pub A-last : (n i : ℕ) (t : List ℕ) → 1 ≤ n → entry (step_a n i t) n ≡ i
unfolding value_a
A-last n i t h = at-a n i t n (omega arith) ∙ is_same n n i _ refl

-- ---- B(i)

value_b : ℕ → ℕ → List ℕ → ℕ → ℕ
value_b n i t j = is j n i (is j i n (raise i (entry t (lower i j))))

pub length-b : (n i : ℕ) (t : List ℕ) → length (step_b n i t) ≡ n
unfolding step_b
length-b n i t = length-tabulate n _

at-b : (n i : ℕ) (t : List ℕ) (j : ℕ) → Among n j → entry (step_b n i t) j ≡ value_b n i t j
unfolding step_b value_b
at-b n i t j h = entry-tabulate n (value_b n i t) j h

-- n stands at jack i
pub B-at : (n i : ℕ) (t : List ℕ) → Among n i → i ≢ n → entry (step_b n i t) i ≡ n
unfolding value_b
B-at n i t h nn = at-b n i t i h ∙ is-other i n i _ nn ∙ is_same i i n _ refl

-- i stands at jack n
pub B-last : (n i : ℕ) (t : List ℕ) → 1 ≤ n → entry (step_b n i t) n ≡ i
unfolding value_b
B-last n i t h = at-b n i t n (omega arith) ∙ is_same n n i _ refl

-- what the shorter pattern has at jack j stands at the raised jack, raised
pub B-raised : (n i : ℕ) (t : List ℕ) (j : ℕ) → Among n (raise i j) → raise i j ≢ n → entry (step_b n i t) (raise i j) ≡ raise i (entry t j)
unfolding value_b
B-raised n i t j h nn =
    at-b n i t (raise i j) h ∙ is-other (raise i j) n i _ nn ∙ is-other (raise i j) i n _ (raise-near i j).2
    ∙ ap (λ (k : ℕ). raise i (entry t k)) (lower-raise i j)
