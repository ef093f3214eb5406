-- Laws of the calls' definitions: refusal 6, or what comes after it; and both after refusal 1.
-- Assumes nothing.
use mathlib.Core.Path.{◌≡◌, refl, sym, ◌∙◌}
use mathlib.Core.Bool.{Bool, true, false, cond}
use Prim.Native.Nat.{ℕ, ◌≤◌, ◌<◌}
use lib.Dec.{ltb}
use borrow.Author.Tests.{lt-ltb, le-ltb, ltb-true}
use Rattle.listing.specs.Count.{count}
use Rattle.listing.proofs.Numbers.{either, test}
use Rattle.words.specs.Told.{Spot, Told, accepted, refused, nowhere}
use Rattle.words.proofs.Told.{not-both}
use Rattle.pattern_check.specs.Calls.{in_size, sized}
use Rattle.pattern_check.proofs.Calls.{fits, size-accepted, size-within}
use Rattle.patterns.specs.Calls.{ranked, listed_of}

module _ {A : Type 0} (n r : ℕ) (t : Told A) where
  pub is-rank : r < count n → ranked n r t ≡ t
  unfolding ranked
  is-rank h = rw (lt-ltb r (count n) h)

  pub no-rank : count n ≤ r → ranked n r t ≡ refused 6 nowhere
  unfolding ranked
  no-rank h = rw (le-ltb r (count n) h)

-- ports of a size, as the code is told, and then the rank
module _ {A : Type 0} (most n r : ℕ) (t : Told A) {total : ℕ} (e : accepted (tt {0}) ≡ sized most n (accepted tt)) (c : total ≡ count n) where
  inside : sized most n (ranked n r t) ≡ ranked n r t
  inside = let s = size-accepted most n e in fits most n (ranked n r t) s.0 s.1

  pub listed : r < total → sized most n (ranked n r t) ≡ t
  listed k = inside ∙ is-rank n r t (rw c at k)

  pub unlisted : total ≤ r → sized most n (ranked n r t) ≡ refused 6 nowhere
  unlisted k = inside ∙ no-rank n r t (rw c at k)

-- what is listed has 2 to most ports, and is below the count
pub listed-parts : (most n r : ℕ) → accepted tt ≡ listed_of most n r → (2 ≤ n) × (n ≤ most) × (r < count n)
unfolding listed_of sized ranked
listed-parts most n r e =
    either (test (in_size most n))
    (λ size.
    let ports = size-within most n (sym size) refl in
    either (test (ltb r (count n)))
    (λ low. (ports.0, ports.1, ltb-true r (count n) low))
    (λ high. absurd (not-both (sym (rw (size, high) at e)))))
    (λ wrong. absurd (not-both (sym (rw wrong at e))))

-- what is not listed is refused as a call that needs a rank is
pub listed-refused : {A : Type 0} (most n r : ℕ) (t : Told A) (k : ℕ) (s : Spot) → refused k s ≡ listed_of most n r → refused k s ≡ sized most n (ranked n r t)
unfolding listed_of sized ranked
listed-refused most n r t k s e = by (in_size most n) (ltb r (count n)) e
  where
    by : (size low : Bool) → refused k s ≡ cond size (cond low (accepted (tt {0})) (refused 6 nowhere)) (refused 1 nowhere)
        → refused k s ≡ cond size (cond low t (refused 6 nowhere)) (refused 1 nowhere)
    by true true e = cc
    by true false e = let number : k ≡ 6 = cc in let place : s ≡ nowhere = cc in rw (number, place)
    by false low e = let number : k ≡ 1 = cc in let place : s ≡ nowhere = cc in rw (number, place)
