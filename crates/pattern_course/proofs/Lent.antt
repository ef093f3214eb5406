-- The front of an array, lent to be filled with the pattern of a rank: what is asked of it, and what the array is then.
-- Assumes nothing.
use mathlib.Core.Path.{◌≡◌, refl, ap, ◌∙◌}
use mathlib.Core.List.{List, ◌++◌}
use Prim.Native.Nat.{ℕ, zero, suc, ◌-◌, ◌≤◌, ◌<◌}
use native.Mathlib.Omega.{arith}
use lib.ListN.{length, take, drop, replicate, length-replicate}
use lib.Seq.{length-take-le, take_at}
use Rattle.listing.specs.Count.{count}
use Rattle.listing.specs.Listing.{at}
use Rattle.listing.specs.Limits.{most_ports}
use Rattle.listing.proofs.Ranks.{at-derangement}
use Rattle.words.specs.Padded.{padded}

-- the front of n entries has a byte for each port
pub front-asked : (n r : ℕ) (t : List ℕ) → n ≤ length t → n ≤ most_ports → r < count n → (length (take n t) ≤ most_ports) × (r < count (length (take n t)))
front-asked n r t h m l = rw (length-take-le n t h) (m, l)

-- what was put there (p) is the pattern for n ports
is-put : (n r : ℕ) (t p : List ℕ) → n ≤ length t → p ≡ at (length (take n t)) r → p ≡ at n r
is-put n r t p h e = e ∙ ap (λ k. at k r) (length-take-le n t h)

-- so the front of the array is that pattern
pub front-put : (n r : ℕ) (t p : List ℕ) → n ≤ length t → r < count n → p ≡ at (length (take n t)) r → take n (p ++ drop n t) ≡ at n r
front-put n r t p h l e =
    ap (λ q. take n (q ++ drop n t)) (is-put n r t p h e) ∙ take_at (at n r) (drop n t) n (at-derangement n r l).permutation.long

-- what is left of an array that has z in every place
alike-left : (n most z : ℕ) → drop n (replicate most z) ≡ replicate (most - n) z
alike-left zero most z = let e : most - 0 ≡ most = omega arith in rw e refl
alike-left (suc n) zero z = let e : 0 - suc n ≡ 0 = omega arith in rw e refl
alike-left (suc n) (suc most) z = let e : suc most - suc n ≡ most - n = omega arith in rw e (alike-left n most z)

-- so such an array is that pattern with z beyond it
pub panel-put : (most z n r : ℕ) (p : List ℕ) → n ≤ most → r < count n → p ≡ at (length (take n (replicate most z))) r
    → p ++ drop n (replicate most z) ≡ padded most z (at n r)
panel-put most z n r p h l e =
    let room : n ≤ length (replicate most z) = rw (length-replicate most z) h in
    rw (is-put n r (replicate most z) p room e, alike-left n most z, (at-derangement n r l).permutation.long) refl
