-- The steps A and B, and the steps back, in one lent array, jack 1 first: what stands in it between two stores; and a pattern with its inverse.
-- Assumes nothing.
use Rattle.std.specs.Prelude.{ℕ, ◌≤◌, ◌<◌, ◌≡◌, List, length, take}
use Rattle.listing.specs.Numbers.{Among, before}
use Rattle.listing.specs.Pattern.{entry, Derangement}
use Rattle.listing.specs.Steps.{by_step_b, by_back_b}

-- an array that is changed jack by jack, from the panel t: the jacks that are done have the port that g says, and those that are left still have that of t
pub record Changing (g : ℕ → ℕ) (t : List ℕ) (Done Left : ℕ → Type 0) (a : List ℕ) : Type 0 where
  pub done : (x : ℕ) → Done x → entry a x ≡ g x
  pub left : (x : ℕ) → Left x → entry a x ≡ entry t x

-- B(i) to n ports from t, from the last jack down: the jacks above j are done, and of those up to j the ones that t has are left
abbrev pub Raising : ℕ → ℕ → List ℕ → ℕ → List ℕ → Type 0
Raising n i t j a = Changing (by_step_b n i t) t (λ x. (j < x) × (x ≤ n)) (λ x. (x ≤ j) × (x ≤ before (before n))) a

-- back from B of n ports, from the first jack on: j jacks are done, and those after them are left
abbrev pub Lowering : ℕ → List ℕ → ℕ → List ℕ → Type 0
Lowering n p j a = Changing (by_back_b n p) p (λ x. Among j x) (λ x. (j < x) × (x ≤ n)) a

-- q has n entries, and at each port of p its jack
pub record Inverse (n : ℕ) (p q : List ℕ) : Type 0 where
  pub long : length q ≡ n
  pub back : (j : ℕ) → Among n j → entry q (entry p j) ≡ j

-- the inverse is filled in one pass: b has the jack of each port that the first j jacks of p hold
abbrev pub Inverted : List ℕ → ℕ → List ℕ → Type 0
Inverted p j b = (x : ℕ) → Among j x → entry b (entry p x) ≡ x

-- the array a begins with a pattern of n ports, and the array b with its inverse
pub record WithInverse (n : ℕ) (a b : List ℕ) : Type 0 where
  pub pattern : Derangement n (take n a)
  pub inverse : Inverse n (take n a) (take n b)
