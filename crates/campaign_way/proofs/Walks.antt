-- The rank that a leg names at a step, worked out without walking there.
-- Assumes nothing.
use mathlib.Core.Path.{◌≡◌, sym}
use mathlib.Core.Bool.{Bool, true, false}
use Prim.Native.Nat.{ℕ, ◌≤◌, ◌<◌}
use Rattle.listing.specs.Count.{count}
use Rattle.promise.specs.Plan.{stepped}
use Rattle.promise.specs.Derangements.{derangements}
use Rattle.promise.proofs.Circuit.{stepped-listed}
use Rattle.promise.proofs.Derangements.{circuit-on}
use Rattle.promise_arcs.specs.Circle.{onward, backward}
use Rattle.promise_arcs.proofs.Legs.{stepped-on, stepped-back}

-- every rank that a leg names is listed
pub walk-listed : (n : ℕ) → 2 ≤ n → (start : ℕ) (back : Bool) (k : ℕ) → start < count n → stepped (derangements n) back start k < count n
unfolding derangements
walk-listed n two start back k h = stepped-listed (derangements n) (circuit-on n two) back start h k

-- the rank k steps on round the circuit, or k steps back, is the one that a walk of k steps reaches
module _ (n : ℕ) (two : 2 ≤ n) (start : ℕ) (back : Bool) (k : ℕ) (hs : start < count n) (hk : k < count n) where
  pub along-on : back ≡ false → onward (count n) start k ≡ stepped (derangements n) back start k
  unfolding derangements
  along-on e = rw e (sym (stepped-on (derangements n) (circuit-on n two) start k hs hk))

  pub along-back : back ≡ true → backward (count n) start k ≡ stepped (derangements n) back start k
  unfolding derangements
  along-back e = rw e (sym (stepped-back (derangements n) (circuit-on n two) start k hs hk))
