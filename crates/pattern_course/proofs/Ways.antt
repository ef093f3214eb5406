-- Down from a rank to its course, and up a course to its pattern, in the numbers that the code has.
-- Assumes nothing.
use mathlib.Core.Path.{◌≡◌, sym, ap, ◌∙◌}
use mathlib.Core.Logic.{◌≢◌}
use mathlib.Core.List.{List, []}
use Prim.Native.Nat.{ℕ, zero, suc, ◌+◌, ◌-◌, ◌≤◌, ◌<◌}
use native.Mathlib.Numerals.{add-one}
use native.Mathlib.Omega.{arith}
use lib.ListN.{length, take, get_or, set}
use Rattle.listing.specs.Numbers.{Among}
use Rattle.listing.specs.Pattern.{Derangement}
use Rattle.listing.specs.Count.{count}
use Rattle.listing.specs.Steps.{step_a, step_b}
use Rattle.listing.specs.Listing.{listing, at}
use Rattle.listing.proofs.Numbers.{from-two}
use Rattle.listing_course.specs.Course.{built, Course, Traced}
use Rattle.listing_course.proofs.Courses.{built-pattern, up-a, up-b, traced-a, traced-b}
use Rattle.pattern_course.specs.declared.types.Origin.TheVariants.{ByA, ByB}
use Rattle.pattern_course.proofs.Origins.{Makes}

-- ---- down

-- the level that a rank names is written, by A
pub down-a : {n : ℕ} {p : List ℕ} (m r i s : ℕ) (c : List ℕ) → 2 ≤ m → Traced c n p m (at m r) → n ≤ length c → Makes m r (ByA i s)
    → (s < count (m - 1)) × Traced (set c (m - 1) i) n p (m - 1) (at (m - 1) s)
down-a {n = n} {p = p} m r i s c two =
    from-two
    (λ m. Traced c n p m (at m r) → n ≤ length c → Makes m r (ByA i s)
    → (s < count (m - 1)) × Traced (set c (m - 1) i) n p (m - 1) (at (m - 1) s))
    (λ k T room made.
    let z : suc (suc k) - 1 ≡ suc k = omega arith in
    let o = rw z at made in
    rw z (o.1, traced-a c T room o.0 o.2))
    m two

-- and by B, with 0 for the level that is skipped
pub down-b : {n : ℕ} {p : List ℕ} (m r i s : ℕ) (c : List ℕ) → 2 ≤ m → Traced c n p m (at m r) → n ≤ length c → Makes m r (ByB i s)
    → (s < count (m - 2)) × Traced (set (set c (m - 1) i) (m - 1 - 1) 0) n p (m - 2) (at (m - 2) s)
down-b {n = n} {p = p} m r i s c two =
    from-two
    (λ m. Traced c n p m (at m r) → n ≤ length c → Makes m r (ByB i s)
    → (s < count (m - 2)) × Traced (set (set c (m - 1) i) (m - 1 - 1) 0) n p (m - 2) (at (m - 2) s))
    (λ k T room made.
    let z : suc (suc k) - 1 ≡ suc k = omega arith in
    let y : suc k - 1 ≡ k = omega arith in
    let x : suc (suc k) - 2 ≡ k = omega arith in
    let o = rw (z, x) at made in
    rw (z, y, x) (o.1, traced-b c T room o.0 o.2))
    m two

-- with no ports left, nothing is left
pub none_left : (m s : ℕ) → m ≡ 0 → at m s ≡ []
unfolding at listing
none_left m zero e = rw e
none_left m (suc s) e = rw e

-- ---- up

-- the buffer begins with the pattern of a course up to m, and the course goes on to n
module _ {n m : ℕ} (c out : List ℕ) (C : Course c n) (B : Course c m) (e : take m out ≡ built c m) (h : m < n) where
  pub front-pattern : Derangement m (take m out)
  front-pattern = rw e (built-pattern c m B)

  -- the next level is met: A
  pub next-a : get_or c m 0 ≢ 0 → Among m (get_or c m 0)
  next-a d = (up-a C B h d).1

  pub made-a : get_or c m 0 ≢ 0 → (u : List ℕ) → take (suc m) u ≡ step_a (suc m) (get_or c m 0) (take m out)
      → Course c (m + 1) × (take (m + 1) u ≡ built c (m + 1))
  made-a d u f = let s = up-a C B h d in rw add-one (s.0, f ∙ ap (step_a (suc m) (get_or c m 0)) e ∙ sym s.2)

  -- it is skipped: B
  pub next-b : get_or c m 0 ≡ 0 → (suc m < n) × Among (suc m) (get_or c (m + 1) 0)
  next-b z = let s = up-b C h z in rw add-one (s.0, s.2)

  pub made-b : get_or c m 0 ≡ 0 → (u : List ℕ) → take (suc (suc m)) u ≡ step_b (suc (suc m)) (get_or c (m + 1) 0) (take m out)
      → Course c (m + 2) × (take (m + 2) u ≡ built c (m + 2))
  made-b z u f =
      let s = up-b C h z in
      let y : m + 2 ≡ suc (suc m) = omega arith in
      let f' = rw add-one at f in
      rw y (s.1, f' ∙ ap (step_b (suc (suc m)) (get_or c (suc m) 0)) e ∙ sym s.3)
