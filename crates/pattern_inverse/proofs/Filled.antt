-- The pass turn by turn, with the copy and the inverse filled so far: it begins with an empty inverse, each turn copies one port and stores its jack, each
-- reason to refuse denies that the list is a pattern, and after the last jack it is one. `at` is the jack's place in the slice, so that the jack is at + 1.
-- Assumes nothing.
use mathlib.Core.Path.{◌≡◌, refl, sym, ap, ◌∙◌}
use mathlib.Core.Logic.{◌≢◌}
use mathlib.Core.List.{List}
use Prim.Native.Nat.{ℕ, suc, ◌+◌, ◌-◌, ◌≤◌, ◌<◌}
use native.Mathlib.Numerals.{add-one}
use native.Mathlib.Omega.{arith}
use lib.ListN.{length, take, get_or, set}
use lib.Seq.{length-take-le}
use Rattle.listing.specs.Numbers.{Among}
use Rattle.listing.specs.Pattern.{entry, Derangement}
use Rattle.listing.proofs.Numbers.{either, same?}
use Rattle.listing.proofs.Panels.{same_entries, entry-below, entry-take, entry-same, entry_other}
use Rattle.listing_course.specs.InPlace.{Inverted, WithInverse}
use Rattle.listing_course.proofs.Inverse.{inverted-on, inverted-end}

-- the first j jacks of p hold ports, none of them its own; the array a has these ports, and the array b their jacks and no other
pub record Filled (p a b : List ℕ) (j : ℕ) : Type 0 where
  pub ports : (x : ℕ) → Among j x → Among (length p) (entry p x)
  pub moved : (x : ℕ) → Among j x → entry p x ≢ x
  pub copied : (x : ℕ) → Among j x → entry a x ≡ entry p x
  pub inverted : Inverted p j b
  pub only : (v : ℕ) → entry b v ≢ 0 → Among j (entry b v) × (entry p (entry b v) ≡ v)

-- ---- yes

-- jack j + 1, whose port k + 1 has no jack yet
filled-one : (p a b : List ℕ) (j k : ℕ) → Filled p a b j → j < length a → k < length p → length p ≤ length b → entry p (suc j) ≡ suc k → k ≢ j
    → entry b (suc k) ≡ 0 → Filled p (set a j (entry p (suc j))) (set b k (suc j)) (suc j)
filled-one p a b j k F place high room e own free =
    record {
      ports = λ x h. either (same? x (suc j)) (λ c. rw (c, e) (omega arith)) (λ c. F.ports x (omega arith));
      moved = λ x h. either (same? x (suc j)) (λ c. rw (c, e) (omega arith)) (λ c. F.moved x (omega arith));
      copied = λ x h.
          either (same? x (suc j))
          (λ c. rw c (entry-same a j (entry p (suc j)) place))
          (λ c. entry_other a j (entry p (suc j)) x c ∙ F.copied x (omega arith));
      inverted = inverted-on p b j k (λ x h z. omega (arith, F.inverted x h, ap (entry b) z)) F.inverted e (omega arith);
      only = λ v.
          either (same? v (suc k))
          (λ c. rw (c, entry-same b k (suc j) (omega arith)) (λ d. (omega arith, e)))
          (λ c. rw (entry_other b k (suc j) v c) (λ d. let o = F.only v d in (omega arith, o.1)));
    }

-- in the numbers that the code has
pub filled-turn : (p a b : List ℕ) (at : ℕ) → Filled p a b at → at < length a → length p ≤ length b → 1 ≤ get_or p at 0 → get_or p at 0 ≤ length p
    → get_or p at 0 ≢ at + 1 → get_or b (get_or p at 0 - 1) 0 ≡ 0 → Filled p (set a at (get_or p at 0)) (set b (get_or p at 0 - 1) (at + 1)) (at + 1)
filled-turn p a b at F place room low high own free =
    let k = get_or p at 0 - 1 in
    let e : get_or p at 0 ≡ suc k = omega arith in
    rw add-one (filled-one p a b at k F place (omega arith) room e (omega arith) free)

-- after the last jack: a pattern, since two jacks with one port would be one jack
filled-pattern : (p a b : List ℕ) → Filled p a b (length p) → Derangement (length p) p
filled-pattern p a b F =
    record {
      permutation = record {
        long = refl;
        ports = F.ports;
        apart = λ j k hj hk e. sym (F.inverted j hj) ∙ ap (entry b) e ∙ F.inverted k hk;
      };
      moved = F.moved;
    }

-- which the copy begins with
pub filled-front : (p a b : List ℕ) → length p ≤ length a → Filled p a b (length p) → take (length p) a ≡ p
filled-front p a b place F =
    let n = length p in
    let long = length-take-le n a place in
    same_entries (take n a) p long (λ j h.
    let k : Among n j = omega arith in
    entry-take n a j k.1 ∙ F.copied j k)

-- with its inverse
pub filled-inverse : (p a b : List ℕ) → length p ≤ length a → length p ≤ length b → Filled p a b (length p) → WithInverse (length p) a b
filled-inverse p a b place room F =
    let f = filled-front p a b place F in
    inverted-end a b (rw f (filled-pattern p a b F)) (rw f F.inverted) room

-- ---- no

module _ (p : List ℕ) (at : ℕ) (here : at < length p) where
  -- a port below 1
  pub no-below : get_or p at 0 < 1 → Derangement (length p) p → ⊥
  no-below h D = omega (arith, D.permutation.ports (suc at) (omega arith))

  -- a port above the last
  pub no_above : length p < get_or p at 0 → Derangement (length p) p → ⊥
  no_above h D = omega (arith, D.permutation.ports (suc at) (omega arith))

  -- a port at its own jack
  pub no_own : get_or p at 0 ≡ at + 1 → Derangement (length p) p → ⊥
  no_own e D = D.moved (suc at) (omega arith) (e ∙ add-one at)

  -- a port that has a jack already
  pub no-again : (a b : List ℕ) → Filled p a b at → 1 ≤ get_or p at 0 → get_or b (get_or p at 0 - 1) 0 ≢ 0 → Derangement (length p) p → ⊥
  no-again a b F low d D =
      let o = F.only (get_or p at 0) (λ z. d (entry-below b (get_or p at 0) low ∙ z)) in
      let same = D.permutation.apart (entry b (get_or p at 0)) (suc at) (omega arith) (omega arith) o.1 in
      omega arith
