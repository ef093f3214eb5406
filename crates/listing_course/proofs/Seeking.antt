-- The lowest open level, sought on the way down: where the shorter list ends, the list goes on at a level that is open, and else where it was found to go on
-- above. At 2 ports every list has ended, and so the level found last is where the list goes on.
-- Assumes nothing.
use mathlib.Core.Path.{◌≡◌, refl, sym, ap, ◌∙◌}
use mathlib.Core.Bool.{Bool, true, false, not, cond}
use mathlib.Core.List.{List}
use mathlib.Core.Option.{none}
use Prim.Native.Nat.{ℕ, suc, ◌≤◌}
use native.Mathlib.Omega.{arith}
use lib.ListN.{length, set, length-set}
use borrow.Author.Tests.{eq-eqb, ne_eqb}
use Rattle.listing.specs.Numbers.{Among}
use Rattle.listing.specs.Pattern.{entry, Derangement}
use Rattle.listing.specs.Steps.{Letter, by_a, by_b, shorter, step}
use Rattle.listing.specs.Listing.{at}
use Rattle.listing.specs.Rank.{rank}
use Rattle.listing.specs.Reading.{comes_first}
use Rattle.listing.proofs.Numbers.{either, same?}
use Rattle.listing.proofs.Counts.{count-2}
use Rattle.listing.proofs.Panels.{entry-same, entry_other}
use Rattle.listing.proofs.Ranks.{rank_below, at-rank}
use Rattle.listing_course.specs.Course.{built, Course, CourseOf, Agrees, Traced}
use Rattle.listing_course.specs.Onward.{read_at, is_open, on_level, goes_on}
use Rattle.listing_course.specs.Seeking.{letter_at, Found, Sought, Seeking}
use Rattle.listing_course.proofs.Courses.{last_fits, met-front, below-front, built-pattern, two-letters}
use Rattle.listing_course.proofs.Courses.{no-course-1, shorter-fewer, on-a, on-b, traced-a, traced-b}
use Rattle.listing_course.proofs.Onward.{comes-twice, read-bottom, read-a, read-b, goes-two, goes-a, goes-b}

-- ---- one level

-- at first nothing is found
pub seeking-start : {n : ℕ} (c : List ℕ) (forward inner : Bool) → Seeking c n forward n forward 0 inner
seeking-start c forward inner =
    record { seen = λ d b C same e. (e, λ ends. record { most = omega arith; ends = λ z. ends; opens = λ z. absurd (z refl) }) }

-- what a course tells of level n, made by w over m ports
record Told (d : List ℕ) (b : Bool) (n : ℕ) (w : Letter) (i m : ℕ) : Type 0 where
  course : Course d n
  number : entry d n ≡ i
  letter : letter_at d n ≡ w
  read : read_at d b n ≡ comes_first (read_at d b m) w i
  goes : goes_on d b n ≡ on_level (read_at d b m) (read_at d b n) w n i (goes_on d b m)

-- where the shorter list ends: here, if the level is open, else as found above
found-level : {d : List ℕ} {b : Bool} {n : ℕ} {w : Letter} {i m : ℕ} {top k : ℕ} {f inner : Bool} → Told d b n w i m → 3 ≤ n → n ≤ top
    → read_at d b m ≡ comes_first f w i → read_at d b n ≡ f → (goes_on d b n ≡ none → Found d b top k inner) → goes_on d b m ≡ none
    → (o : Bool) → is_open (comes_first f w i) f n i ≡ o → Found d b top (cond o n k) (cond o (comes_first f w i) inner)
found-level {w = w} {i = i} {f = f} T low high below here above ends true e =
    record {
      most = high;
      ends = λ z. absurd (omega arith);
      opens = λ z.
          record {
            three = low;
            course = T.course;
            opened = rw (T.letter, T.number, comes-twice f w i) e;
            goes = rw (T.letter, T.number, comes-twice f w i) (T.goes ∙ rw (ends, below, here, e));
          };
    }
found-level T low high below here above ends false e = above (T.goes ∙ rw (ends, below, here, e))

-- level m + 2 of c' is i, by w, and above it c' has the numbers of c
record Chosen (c c' : List ℕ) (n m : ℕ) (w : Letter) (i : ℕ) : Type 0 where
  top : suc (suc m) ≤ n
  fits : Among (suc m) i
  number : entry c' (suc (suc m)) ≡ i
  skipped : w ≡ by_b → entry c' (suc m) ≡ 0
  above : Agrees c c' (suc (suc m)) n

told : {n m i : ℕ} {c c' : List ℕ} (w : Letter) (d : List ℕ) (b : Bool) → Chosen c c' n m w i → 2 ≤ shorter w (suc (suc m))
    → Course d (shorter w (suc (suc m))) → Agrees c' d (shorter w (suc (suc m))) n → Told d b (suc (suc m)) w i (shorter w (suc (suc m)))
told {m = m} by_a d b H two C same =
    let e = same (suc (suc m)) (omega arith) H.top ∙ H.number in
    let met = C.met (omega arith) in
    record {
      course = on-a C (rw e H.fits);
      number = e;
      letter = rw (ne_eqb (entry d (suc m)) 0 met);
      read = read-a d b (suc m) two ∙ rw e;
      goes = goes-a d b (suc m) two met ∙ rw e;
    }
told {m = m} by_b d b H two C same =
    let top = H.top in
    let e = same (suc (suc m)) (omega arith) top ∙ H.number in
    let z = same (suc m) (omega arith) (omega arith) ∙ H.skipped refl in
    record {
      course = on-b C z (rw e H.fits);
      number = e;
      letter = rw (eq-eqb (entry d (suc m)) 0 z);
      read = read-b d b m two z ∙ rw e;
      goes = goes-b d b m two z ∙ rw e;
    }

-- the step down: what was found is kept, unless this level is open
seeking-on : {n m i k : ℕ} {c c' : List ℕ} {forward f inner : Bool} (w : Letter) → Chosen c c' n m w i → 2 ≤ shorter w (suc (suc m))
    → Seeking c n forward (suc (suc m)) f k inner
    → Seeking c' n forward (shorter w (suc (suc m))) (comes_first f w i) (cond (is_open (comes_first f w i) f (suc (suc m)) i) (suc (suc m)) k)
    (cond (is_open (comes_first f w i) f (suc (suc m)) i) (comes_first f w i) inner)
seeking-on {m = m} {i = i} {f = f} w H two S =
    let fewer = shorter-fewer w (suc (suc m)) (omega arith) in
    record {
      seen = λ d b C same below.
          let l = told w d b H two C same in
          let here : read_at d b (suc (suc m)) ≡ f = l.read ∙ ap (λ (g : Bool). comes_first g w i) below ∙ comes-twice f w i in
          let old = S.seen d b l.course (λ j h r. same j (omega arith) r ∙ H.above j h r) here in
          (old.0, λ ends. found-level l (omega arith) H.top below here old.1 ends (is_open (comes_first f w i) f (suc (suc m)) i) refl);
    }

-- ---- down from a pattern, each level stored as it is found

module _ {n m i : ℕ} (c : List ℕ) (top : suc (suc m) ≤ n) (room : n ≤ length c) (fits : Among (suc m) i) where
  -- the number of the level is stored, and 0 below it, which is there to stay if the step was B
  abbrev chosen : List ℕ
  chosen = set (set c (suc m) i) m 0

  is-chosen : (w : Letter) → Chosen c chosen n m w i
  is-chosen w =
      record {
        top = top;
        fits = fits;
        number = entry_other (set c (suc m) i) m 0 (suc (suc m)) (omega arith) ∙ entry-same c (suc m) i (omega arith);
        skipped = λ e. entry-same (set c (suc m) i) m 0 (simp length-set (omega arith));
        above = λ k h l. entry_other (set c (suc m) i) m 0 k (omega arith) ∙ entry_other c (suc m) i k (omega arith);
      }

  pub seeking-level : (w : Letter) {forward f inner : Bool} {k : ℕ} → 2 ≤ shorter w (suc (suc m)) → Seeking c n forward (suc (suc m)) f k inner
      → Seeking chosen n forward (shorter w (suc (suc m))) (comes_first f w i) (cond (is_open (comes_first f w i) f (suc (suc m)) i) (suc (suc m)) k)
      (cond (is_open (comes_first f w i) f (suc (suc m)) i) (comes_first f w i) inner)
  seeking-level w two S = seeking-on w (is-chosen w) two S

  -- and the course of the pattern is traced on
  pub traced-level : (w : Letter) {p u t : List ℕ} → Traced c n p (suc (suc m)) u → step w (suc (suc m)) i t ≡ u → Traced chosen n p (shorter w (suc (suc m))) t
  traced-level by_a T e =
      let U = traced-a c T room fits e in
      record { most = U.most; whole = λ d C same. U.whole d C (λ k h l. same k h l ∙ entry_other (set c (suc m) i) m 0 k (omega arith)) }
  traced-level by_b T e = traced-b c T room fits e

-- ---- down a course that is there

-- what is found one level down
pub record Lower (c : List ℕ) (n : ℕ) (forward : Bool) (m : ℕ) (f : Bool) (k : ℕ) (inner : Bool) (w : Letter) (i : ℕ) : Type 0 where
  pub two : 2 ≤ shorter w m
  pub course : Course c (shorter w m)
  pub seeking : Seeking c n forward (shorter w m) (comes_first f w i) (cond (is_open (comes_first f w i) f m i) m k)
      (cond (is_open (comes_first f w i) f m i) (comes_first f w i) inner)

pub seeking-down : {n m k : ℕ} {c : List ℕ} {forward f inner : Bool} → suc (suc m) ≤ n → 3 ≤ suc (suc m) → Course c (suc (suc m))
    → Seeking c n forward (suc (suc m)) f k inner → Lower c n forward (suc (suc m)) f k inner (letter_at c (suc (suc m))) (entry c (suc (suc m)))
seeking-down {n = n} {m = m} {k = k} {c = c} {forward = forward} {f = f} {inner = inner} top three C S =
    either (same? (entry c (suc m)) 0)
    (λ z. rw (eq-eqb (entry c (suc m)) 0 z) (lower by_b (λ e. z) (below-front C z)))
    (λ d. rw (ne_eqb (entry c (suc m)) 0 d) (lower by_a (λ e. absurd (two-letters (sym e))) (met-front C d)))
  where
    some_left : (w : Letter) → Course c (shorter w (suc (suc m))) → 2 ≤ shorter w (suc (suc m))
    some_left by_a B = omega arith
    some_left by_b B = either (same? m 1) (λ e. absurd (no-course-1 (rw e at B))) (λ d. omega arith)

    lower : (w : Letter) → (w ≡ by_b → entry c (suc m) ≡ 0) → Course c (shorter w (suc (suc m)))
        → Lower c n forward (suc (suc m)) f k inner w (entry c (suc (suc m)))
    lower w skips B =
        let two = some_left w B in
        record {
          two = two;
          course = B;
          seeking = seeking-on w (record { top = top; fits = last_fits C; number = refl; skipped = skips; above = λ j h l. refl }) two S;
        }

-- ---- at the bottom

-- two patterns of 2 ports are one
one-of-2 : (t u : List ℕ) → Derangement 2 t → Derangement 2 u → t ≡ u
one-of-2 t u D E =
    let same : rank 2 t ≡ rank 2 u = omega (arith, count-2, rank_below 2 t D, rank_below 2 u E) in
    sym (at-rank 2 t D) ∙ ap (at 2) same ∙ at-rank 2 u E

module _ {n k : ℕ} {p t : List ℕ} {forward here inner : Bool} (c : List ℕ) (room : 2 ≤ length c) (T : Traced c n p 2 t) (D : Derangement 2 t)
    (S : Seeking c n forward 2 here k inner) where
  -- levels 1 and 2 of every course
  abbrev ended : List ℕ
  ended = set (set c 0 0) 1 1

  level-1 : entry ended 1 ≡ 0
  level-1 = entry_other (set c 0 0) 1 1 1 (omega arith) ∙ entry-same c 0 0 (omega arith)

  level-2 : entry ended 2 ≡ 1
  level-2 = entry-same (set c 0 0) 1 1 (simp length-set (omega arith))

  course-2 : Course ended 2
  course-2 =
      record {
        below = λ j h. either (same? j 1) (λ e. rw (e, level-1) (omega arith)) (λ d. let e : j ≡ 2 = omega arith in rw (e, level-2) (omega arith));
        apart = λ j h l z. let e : j ≡ 1 = omega arith in rw (e, level-2) (omega arith);
        met = λ h. rw level-2 (omega arith);
      }

  agree : Agrees c ended 2 n
  agree j h l = entry_other (set c 0 0) 1 1 j (omega arith) ∙ entry_other c 0 0 j (omega arith)

  -- the course is whole, and where its list goes on is found
  pub course-found : CourseOf ended n p × ((back : Bool) → forward ≡ not back → Sought ended n back k inner)
  course-found =
      let C : CourseOf ended 2 t = record { course = course-2; makes = one-of-2 (built ended 2) t (built-pattern ended 2 course-2) D } in
      let s = S.seen ended here course-2 agree (read-bottom ended here) in
      (T.whole ended C agree, λ back e. (here, s.0 ∙ e, s.1 (goes-two ended here)))

-- down a course that was there, what was found last is where its list goes on
pub found-down : {n k : ℕ} {c : List ℕ} {forward here inner : Bool} → Course c 2 → Seeking c n forward 2 here k inner
    → (back : Bool) → forward ≡ not back → Sought c n back k inner
found-down {c = c} {here = here} C S back e =
    let s = S.seen c here C (λ j h l. refl) (read-bottom c here) in
    (here, s.0 ∙ e, s.1 (goes-two c here))
