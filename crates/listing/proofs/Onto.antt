-- Every port stands on a permutation: as many jacks as ports, and no port at two jacks, leave no port out.
-- Assumes nothing.
use mathlib.Core.Path.{◌≡◌, sym}
use mathlib.Core.Logic.{◌≢◌}
use mathlib.Core.List.{List}
use Prim.Native.Nat.{ℕ, zero, suc}
use native.Mathlib.Omega.{arith}
use Rattle.listing.specs.Numbers.{Among, trade}
use Rattle.listing.specs.Pattern.{entry, Permutation}
use Rattle.listing.proofs.Numbers.{either, same?, trade-cases}

-- ---- a map of 1..n into 1..n that sends no two numbers to one meets each of them

-- b in the place of a: values other than b stay apart
trade-apart : (a b v w : ℕ) → v ≢ b → w ≢ b → trade a b v ≡ trade a b w → v ≡ w
trade-apart a b v w nv nw e =
    either (trade-cases a b v)
    (λ c. either (trade-cases a b w) (λ d. omega arith) (λ d. omega arith))
    (λ c. either (trade-cases a b w) (λ d. omega arith) (λ d. omega arith))

-- and in the place of the last number they come below it
trade-below : (n b v : ℕ) → Among (suc n) b → Among (suc n) v → v ≢ b → Among n (trade (suc n) b v)
trade-below n b v hb hv nv = either (trade-cases (suc n) b v) (λ c. omega arith) (λ c. omega arith)

-- the map without its last number, which has b: where it had the last value it gets b
onto : (n : ℕ) (f : ℕ → ℕ) → ((j : ℕ) → Among n j → Among n (f j)) → ((j k : ℕ) → Among n j → Among n k → f j ≡ f k → j ≡ k)
    → (x : ℕ) → Among n x → (j : ℕ) × Among n j × (f j ≡ x)
onto zero f range apart x h = absurd (omega arith)
onto (suc n) f range apart x h =
    either (same? x (f (suc n))) (λ e. (suc n, omega arith, sym e)) (λ ne.
    elsewhere ne (onto n (λ j. trade (suc n) (f (suc n)) (f j))
    (λ j a. trade-below n (f (suc n)) (f j) last (range j (omega arith)) (not_last j a))
    (λ j k a b e. apart j k (omega arith) (omega arith) (trade-apart (suc n) (f (suc n)) (f j) (f k) (not_last j a) (not_last k b) e))
    (trade (suc n) (f (suc n)) x) (trade-below n (f (suc n)) x last h ne)))
  where
    last : Among (suc n) (f (suc n))
    last = range (suc n) (omega arith)

    not_last : (j : ℕ) → Among n j → f j ≢ f (suc n)
    not_last j a e = let z : j ≡ suc n = apart j (suc n) (omega arith) (omega arith) e in omega arith

    elsewhere : x ≢ f (suc n) → (j : ℕ) × Among n j × (trade (suc n) (f (suc n)) (f j) ≡ trade (suc n) (f (suc n)) x) → (j : ℕ) × Among (suc n) j × (f j ≡ x)
    elsewhere ne m = (m.0, omega (arith, m.1), trade-apart (suc n) (f (suc n)) (f m.0) x (not_last m.0 m.1) ne m.2)

-- ---- a permutation

-- each of the ports stands at a jack
pub stands : (n : ℕ) (p : List ℕ) → Permutation n p → (x : ℕ) → Among n x → (j : ℕ) × Among n j × (entry p j ≡ x)
stands n p P x h = onto n (entry p) P.ports P.apart x h
