-- Words within their limits: the test tells that there are as many words as limits and none is above its own.
-- Assumes nothing.
use mathlib.Core.Path.{◌≡◌, refl, sym, ap}
use mathlib.Core.Bool.{true, false, and-eq-true_iff, true≢false}
use mathlib.Core.List.{List, [], ◌∷◌, ◌++◌}
use Prim.Native.Nat.{ℕ, zero, suc, ◌≤◌, ◌<◌}
use native.Mathlib.Omega.{arith}
use lib.Dec.{leb}
use lib.ListN.{length, get_or, replicate}
use borrow.Author.Tests.{leb-true, le-leb}
use Rattle.listing.proofs.Numbers.{either, test}
use Rattle.face_state.specs.States.{within}

-- there are as many words as limits
pub within-length : (ws ls : List ℕ) → within ws ls ≡ true → length ws ≡ length ls
unfolding within
within-length [] [] e = refl
within-length [] (l ∷ ls) e = absurd (true≢false (sym e))
within-length (w ∷ ws) [] e = absurd (true≢false (sym e))
within-length (w ∷ ws) (l ∷ ls) e = ap suc (within-length ws ls ((and-eq-true_iff (leb w l) (within ws ls)).0 e).1)

-- and each is at most its own
pub within-at : (ws ls : List ℕ) → within ws ls ≡ true → (i : ℕ) → i < length ls → get_or ws i 0 ≤ get_or ls i 0
unfolding within
within-at [] [] e i h = absurd (omega arith)
within-at [] (l ∷ ls) e i h = absurd (true≢false (sym e))
within-at (w ∷ ws) [] e i h = absurd (omega arith)
within-at (w ∷ ws) (l ∷ ls) e zero h = leb-true w l ((and-eq-true_iff (leb w l) (within ws ls)).0 e).0
within-at (w ∷ ws) (l ∷ ls) e (suc i) h = within-at ws ls ((and-eq-true_iff (leb w l) (within ws ls)).0 e).1 i (omega arith)

-- such words pass
pub all-within : (ws ls : List ℕ) → length ws ≡ length ls → ((i : ℕ) → i < length ls → get_or ws i 0 ≤ get_or ls i 0) → within ws ls ≡ true
unfolding within
all-within [] [] e f = refl
all-within [] (l ∷ ls) e f = absurd (omega arith)
all-within (w ∷ ws) [] e f = absurd (omega arith)
all-within (w ∷ ws) (l ∷ ls) e f = rw (le-leb w l (f 0 (omega arith)), all-within ws ls (omega arith) (λ i h. f (suc i) (omega arith))) refl

-- another number of words does not
pub not-as-many : (ws ls : List ℕ) → (length ws ≡ length ls → ⊥) → within ws ls ≡ false
not-as-many ws ls f = either (test (within ws ls)) (λ t. absurd (f (within-length ws ls t))) (λ t. t)

-- nor does a word above its limit
pub one-above : (ws ls : List ℕ) (i : ℕ) → i < length ls → get_or ls i 0 < get_or ws i 0 → within ws ls ≡ false
one-above ws ls i h f = either (test (within ws ls)) (λ t. absurd (omega (arith, within-at ws ls t i h))) (λ t. t)

-- ---- by parts

-- parts that pass, passed one after the other
pub within-parts : (ws vs ls ms : List ℕ) → within ws ls ≡ true → within vs ms ≡ true → within (ws ++ vs) (ls ++ ms) ≡ true
unfolding within
within-parts [] vs [] ms e f = f
within-parts [] vs (l ∷ ls) ms e f = absurd (true≢false (sym e))
within-parts (w ∷ ws) vs [] ms e f = absurd (true≢false (sym e))
within-parts (w ∷ ws) vs (l ∷ ls) ms e f =
    let t = (and-eq-true_iff (leb w l) (within ws ls)).0 e in
    rw (t.0, within-parts ws vs ls ms t.1 f) refl

-- a part whose words have one limit
pub within_same : (ws : List ℕ) (n v : ℕ) → length ws ≡ n → ((i : ℕ) → get_or ws i 0 ≤ v) → within ws (replicate n v) ≡ true
unfolding within
within_same [] zero v e f = refl
within_same [] (suc n) v e f = absurd (omega arith)
within_same (w ∷ ws) zero v e f = absurd (omega arith)
within_same (w ∷ ws) (suc n) v e f = rw (le-leb w v (f 0), within_same ws n v (omega arith) (λ i. f (suc i))) refl
