-- The way down, level by level, in the numbers that the code has: of a pattern, whose course is traced and whose lowest open level is sought at once; and of a
-- course that is there.
-- Assumes nothing.
use mathlib.Core.Path.{◌≡◌, refl, sym, subst}
use mathlib.Core.Logic.{◌≢◌}
use mathlib.Core.Bool.{Bool, not, cond}
use mathlib.Core.List.{List}
use Prim.Native.Nat.{ℕ, zero, suc, ◌-◌, ◌≤◌, ◌<◌}
use native.Mathlib.Omega.{arith}
use lib.ListN.{length, set, length-set}
use Rattle.listing.specs.Numbers.{Among}
use Rattle.listing.specs.Pattern.{entry, Derangement}
use Rattle.listing.specs.Steps.{Letter, by_a, by_b, shorter, back, step, letter}
use Rattle.listing.specs.Limits.{most_ports}
use Rattle.listing.specs.Reading.{comes_first}
use Rattle.listing.proofs.Numbers.{from-two}
use Rattle.listing.proofs.Shorter.{letter-back}
use Rattle.listing_course.specs.Course.{Course, CourseOf, Traced}
use Rattle.listing_course.specs.Seeking.{letter_at, Sought, Seeking}
use Rattle.listing_course.proofs.Seeking.{seeking-level, traced-level, seeking-down, course-found}
use Rattle.pattern_inverse.specs.Judged.{pattern_of}
use Rattle.pattern_inverse.specs.declared.types.Taken.{Taken}
use Rattle.pattern_levels.specs.declared.types.Came.{Came}
use Rattle.pattern_levels.specs.Levels.{came_of, letter_of, end_of, Peeled}
use Rattle.listing_course.proofs.Courses.{shorter-fewer}
use Rattle.pattern_levels.proofs.Came.{as-came, two-jacks, end-among}
use Rattle.pattern_moves.specs.Lowest.{open_by}
use Rattle.pattern_moves.specs.declared.types.Open.{Open}

-- of the pattern p of n ports t is left; the levels above are in c; the list for what is left is read forward or backward; o is the lowest open level so far
pub record Going (n : ℕ) (p : List ℕ) (back : Bool) (t : Taken) (c : List ℕ) (forward : Bool) (o : Open) : Type 0 where
  pub long-course : length c ≡ most_ports
  pub two : 2 ≤ t.ports
  pub traced : Traced c n p t.ports (pattern_of t)
  pub seeking : Seeking c n (not back) t.ports forward o.ports o.inner

-- one level down, from the pattern t of m ports to u, by the step s
level-down : {n : ℕ} {p t u : List ℕ} {ahead forward : Bool} {o o' : Open} (c : List ℕ) (m : ℕ) (s : Came) → n ≤ most_ports → 2 ≤ m → 2 < m
    → length c ≡ most_ports → Derangement m t → Traced c n p m t → Seeking c n ahead m forward o.ports o.inner
    → s ≡ came_of (letter m t) (entry t m) → u ≡ back (letter_of s) m t → Derangement (shorter (letter_of s) m) u
    → o'.ports ≡ cond (open_by forward m s) m o.ports → o'.inner ≡ cond (open_by forward m s) (comes_first forward (letter_of s) (end_of s)) o.inner
    → (2 ≤ shorter (letter_of s) m)
    × Traced (set (set c (m - 1) (end_of s)) (m - 1 - 1) 0) n p (shorter (letter_of s) m) u
    × Seeking (set (set c (m - 1) (end_of s)) (m - 1 - 1) 0) n ahead (shorter (letter_of s) m) (comes_first forward (letter_of s) (end_of s)) o'.ports o'.inner
level-down c zero s most two low long D T S came shown E ep ei = absurd (omega arith)
level-down c (suc zero) s most two low long D T S came shown E ep ei = absurd (omega arith)
level-down {t = t} {u = u} c (suc (suc k)) s most two low long D T S came shown E ep ei =
    let m = suc (suc k) in
    let w = letter_of s in
    let z : m - 1 ≡ suc k = omega arith in
    let y : suc k - 1 ≡ k = omega arith in
    let is = as-came s (letter m t) (entry t m) came in
    let made : t ≡ step w m (end_of s) u = rw (is.0, is.1, ← shown) at (letter-back k t D).1 in
    let fits : Among (suc k) (end_of s) = rw z at (end-among two D came) in
    let left : 2 ≤ shorter w m = two-jacks (some_left w k low) E in
    rw (z, y) (
      left,
      traced-level c T.most (omega (arith, long)) fits w T (sym made),
      rw (ep, ei) (seeking-level c T.most (omega (arith, long)) fits w left S),
    )
  where
    some_left : (w : Letter) (k : ℕ) → 2 < suc (suc k) → shorter w (suc (suc k)) ≢ 0
    some_left by_a k h = omega arith
    some_left by_b k h = omega arith

-- so what is left of the pattern goes on
pub going-down : {n : ℕ} {p : List ℕ} {back forward : Bool} {o : Open} (t u : Taken) (c : List ℕ) (s : Came) (o' : Open) → n ≤ most_ports → 2 < t.ports
    → Going n p back t c forward o → Peeled t s u
    → o'.ports ≡ cond (open_by forward t.ports s) t.ports o.ports
    → o'.inner ≡ cond (open_by forward t.ports s) (comes_first forward (letter_of s) (end_of s)) o.inner
    → Going n p back u (set (set c (t.ports - 1) (end_of s)) (t.ports - 1 - 1) 0) (comes_first forward (letter_of s) (end_of s)) o'
going-down {n = n} {p = p} {back = back} {forward = forward} t u c s o' most low G P ep ei =
    let c' = set (set c (t.ports - 1) (end_of s)) (t.ports - 1 - 1) 0 in
    let f = comes_first forward (letter_of s) (end_of s) in
    let E = subst (λ (k : ℕ). Derangement k (pattern_of u)) P.left u.arrays.pattern in
    let d = level-down c t.ports s most G.two low G.long-course t.arrays.pattern G.traced G.seeking P.came P.shown E ep ei in
    record {
      long-course = simp length-set G.long-course;
      two = subst (λ (k : ℕ). 2 ≤ k) (sym P.left) d.0;
      traced = subst (λ (k : ℕ). Traced c' n p k (pattern_of u)) (sym P.left) d.1;
      seeking = subst (λ (k : ℕ). Seeking c' n (not back) k f o'.ports o'.inner) (sym P.left) d.2;
    }

-- with 2 ports left the course is whole, and where its list goes on is found
pub going_end : {n : ℕ} {p : List ℕ} {back forward : Bool} {o : Open} (t : Taken) (c : List ℕ) → Going n p back t c forward o → t.ports ≡ 2
    → CourseOf (set (set c 0 0) 1 1) n p × Sought (set (set c 0 0) 1 1) n back o.ports o.inner
going_end {back = back} t c G e =
    let T = rw e at G.traced in
    let D = rw e at t.arrays.pattern in
    let S = rw e at G.seeking in
    let f = course-found c (omega (arith, G.long-course)) T D S in
    (f.0, f.1 back refl)

-- ---- down a course that is there

-- m levels of the course c of n are left; the list for m is read forward or backward; o is the lowest open level so far
pub record Looking (n : ℕ) (back : Bool) (c : List ℕ) (forward : Bool) (m : ℕ) (o : Open) : Type 0 where
  pub most : m ≤ n
  pub two : 2 ≤ m
  pub course : Course c m
  pub seeking : Seeking c n (not back) m forward o.ports o.inner

-- one level down, by the step s
pub looking-down : {n : ℕ} {back forward : Bool} {o : Open} (c : List ℕ) (m : ℕ) (s : Came) (o' : Open) → 2 < m → Looking n back c forward m o
    → s ≡ came_of (letter_at c m) (entry c m)
    → o'.ports ≡ cond (open_by forward m s) m o.ports → o'.inner ≡ cond (open_by forward m s) (comes_first forward (letter_of s) (end_of s)) o.inner
    → Looking n back c (comes_first forward (letter_of s) (end_of s)) (shorter (letter_of s) m) o'
looking-down {n = n} {back = back} {forward = forward} {o = o} c m s o' low L =
    from-two
    (λ m. 2 < m → Looking n back c forward m o → s ≡ came_of (letter_at c m) (entry c m)
    → o'.ports ≡ cond (open_by forward m s) m o.ports → o'.inner ≡ cond (open_by forward m s) (comes_first forward (letter_of s) (end_of s)) o.inner
    → Looking n back c (comes_first forward (letter_of s) (end_of s)) (shorter (letter_of s) m) o')
    (λ k low L e ep ei.
    let m = suc (suc k) in
    let is = as-came s (letter_at c m) (entry c m) e in
    let down = rw (is.0, is.1) at (seeking-down L.most low L.course L.seeking) in
    record {
      most = omega (arith, L.most, shorter-fewer (letter_of s) m L.two);
      two = down.two;
      course = down.course;
      seeking = rw (ep, ei) down.seeking;
    })
    m L.two low L
