-- Runs and their 64 bits: each is read back from the other (`run-back`, `bits_back`), and what the code has of them.
-- Assumes nothing.
use mathlib.Core.Path.{◌≡◌, refl, sym, ap, subst, ◌∙◌}
use mathlib.Core.Bool.{true, false}
use mathlib.Core.List.{List, [], ◌∷◌, map}
use Prim.Native.Nat.{ℕ, zero, suc, ◌-◌, ◌≤◌, ◌<◌}
use native.Mathlib.Nat.{zero-add}
use native.Mathlib.Omega.{arith}
use lib.Dec.{ltb}
use lib.IntN.{ℤ, pos, negsuc, ◌-ℤ◌}
use lib.ListN.{get_or}
use mir.Syntax.{w64}
use mir.Val.{SFits, to_z, of_z}
use mir.ValLaws.{to_z_pos, to_z-of_z}
use borrow.Author.Tests.{lt-ltb, le-ltb, ltb-true, ltb-false}
use Rattle.listing.specs.Limits.{largest64}
use Rattle.listing.proofs.Numbers.{either, test}
use Rattle.words.specs.Signs.{by_sign, signed_limit}
use Rattle.words.specs.declared.Signed.{Signed}
use Rattle.words.proofs.BySign.{goes-on, goes_back}
use Rattle.face_state.specs.States.{run_bits, run_in}

-- ---- back and forth

-- the run of a run's bits is that run
pub run-back : (z : ℤ) → SFits w64 z → run_in (run_bits z) ≡ z
unfolding run_in
run-back (pos n) f = rw (lt-ltb n signed_limit f.sfits) refl
run-back (negsuc n) f =
    let h = f.sfits in
    let back : largest64 - (largest64 - n) ≡ n = omega arith in
    rw (le-ltb (largest64 - n) signed_limit (omega arith), back) refl

-- the bits of a word's run are that word
pub bits_back : (w : ℕ) → w ≤ largest64 → run_bits (run_in w) ≡ w
unfolding run_in
bits_back w h =
    either (test (ltb w signed_limit))
    (λ t. rw t refl)
    (λ t. let back : largest64 - (largest64 - w) ≡ w = omega arith in rw (t, back) refl)

-- each word of a list
pub all-bits-back : (ws : List ℕ) → ((i : ℕ) → get_or ws i 0 ≤ largest64) → map run_bits (map run_in ws) ≡ ws
all-bits-back [] h = refl
all-bits-back (w ∷ ws) h = ap (λ x. x ∷ map run_bits (map run_in ws)) (bits_back w (h 0)) ∙ ap (λ l. w ∷ l) (all-bits-back ws (λ i. h (suc i)))

-- each run of a list
pub all-runs-back : (zs : List ℤ) → ((i : ℕ) → SFits w64 (get_or zs i (pos 0))) → map run_in (map run_bits zs) ≡ zs
all-runs-back [] h = refl
all-runs-back (z ∷ zs) h = ap (λ x. x ∷ map run_in (map run_bits zs)) (run-back z (h 0)) ∙ ap (λ l. z ∷ l) (all-runs-back zs (λ i. h (suc i)))

-- a run's bits are 64
pub bits_fit : (z : ℤ) → SFits w64 z → run_bits z ≤ largest64
bits_fit (pos n) f = let h = f.sfits in omega arith
bits_fit (negsuc n) f = omega arith

-- a word's run is one of 64 bits
pub run_fits : (w : ℕ) → w ≤ largest64 → SFits w64 (run_in w)
unfolding run_in
run_fits w h =
    either (test (ltb w signed_limit))
    (λ t. rw t (record { sfits = ltb-true w signed_limit t }))
    (λ t. let l = ltb-false w signed_limit t in rw t (record { sfits = omega arith }))

-- ---- what the code computes

-- -1 less m
minus_one : (m : ℕ) → negsuc 0 -ℤ pos m ≡ negsuc m
minus_one zero = refl
minus_one (suc n) = ap (λ k. negsuc (suc k)) (zero-add n)

module _ (w : ℕ) where
  -- below 2^63 the word as it is
  pub ahead_in : w < signed_limit → to_z w64 w ≡ run_in w
  unfolding run_in
  ahead_in h = to_z_pos w64 w h ∙ rw (lt-ltb w signed_limit h) refl

  module _ (h : w ≤ largest64) (b : signed_limit ≤ w) where
    -- else -1 less what is missing to the largest
    less : negsuc 0 -ℤ to_z w64 (largest64 - w) ≡ run_in w
    unfolding run_in
    less =
        ap (λ z. negsuc 0 -ℤ z) (to_z_pos w64 (largest64 - w) (omega arith))
        ∙ minus_one (largest64 - w)
        ∙ rw (le-ltb w signed_limit b) refl

    pub behind-sub : SFits w64 (negsuc 0 -ℤ to_z w64 (largest64 - w))
    behind-sub = subst (SFits w64) (sym less) (run_fits w h)

    pub behind-in : to_z w64 (of_z w64 (negsuc 0 -ℤ to_z w64 (largest64 - w))) ≡ run_in w
    behind-in = ap (λ z. to_z w64 (of_z w64 z)) less ∙ to_z-of_z w64 (run_in w) (run_fits w h)

-- the bits of a run, by its sign
module _ {s : Signed} (z : ℤ) (e : s ≡ by_sign z) where
  pub bits-on : s.back ≡ false → s.magnitude ≡ run_bits z
  bits-on b = ap run_bits (goes-on z e b)

  pub some_back : s.back ≡ true → 1 ≤ s.magnitude
  some_back b = omega (arith, (goes_back z e b).one_more)

  pub bits-back-by : s.back ≡ true → largest64 - (s.magnitude - 1) ≡ run_bits z
  bits-back-by b =
      let g = goes_back z e b in
      let less : s.magnitude - 1 ≡ g.less = omega (arith, g.one_more) in
      ap (λ m. largest64 - m) less ∙ ap run_bits g.is
