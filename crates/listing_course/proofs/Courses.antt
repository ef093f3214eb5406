-- Courses level by level. A course makes a pattern, and no other course makes it; up a course each step is that of the next level that is met; down from a
-- pattern each level is that of the step that made it.
-- Assumes nothing.
use mathlib.Core.Path.{◌≡◌, refl, sym, ap, ◌∙◌}
use mathlib.Core.Logic.{◌≢◌}
use mathlib.Core.List.{List, [], ◌∷◌}
use Prim.Native.Nat.{ℕ, zero, suc, ◌≤◌, ◌<◌}
use native.Mathlib.Omega.{arith}
use lib.ListN.{length, set, replicate, length-set, length-replicate}
use borrow.Author.Tests.{eq-eqb, ne_eqb}
use Rattle.listing.specs.Numbers.{Among}
use Rattle.listing.specs.Pattern.{entry, Derangement}
use Rattle.listing.specs.Steps.{Letter, by_a, by_b, shorter, step, step_a, step_b}
use Rattle.listing.proofs.Numbers.{either, same?}
use Rattle.listing.proofs.Panels.{entry-same, entry_other}
use Rattle.listing.proofs.Shorter.{shorter-first, step-derangement, made, made-once}
use Rattle.listing.proofs.Ranks.{not-one}
use Rattle.listing_course.specs.Course.{built, Course, CourseOf, Traced}

-- ---- a course and its fronts

-- up to a level that is met, a course is a course
pub course-front : {c : List ℕ} {n k : ℕ} → Course c n → k ≤ n → (1 ≤ k → entry c k ≢ 0) → Course c k
course-front C h met = record { below = λ j b. C.below j (omega arith); apart = λ j b l. C.apart j b (omega arith); met = met }

-- there is one of no levels
pub course-none : (c : List ℕ) → Course c 0
course-none c = record { below = λ k h. absurd (omega arith); apart = λ k b h. absurd (omega arith); met = λ h. absurd (omega arith) }

-- and none of one level: its number is below 1, and would have to be met
pub no-course-1 : {c : List ℕ} → Course c 1 → ⊥
no-course-1 C = omega (arith, C.below 1 (omega arith), C.met (omega arith))

-- the number of the last level is 1 to n - 1
pub last_fits : {c : List ℕ} {m : ℕ} → Course c (suc (suc m)) → Among (suc m) (entry c (suc (suc m)))
last_fits {c = c} {m = m} C = omega (arith, C.below (suc (suc m)) (omega arith), C.met (omega arith))

-- the front up to the level below, where that is met, and up to the one below it, where it is skipped
pub met-front : {c : List ℕ} {m : ℕ} → Course c (suc (suc m)) → entry c (suc m) ≢ 0 → Course c (suc m)
met-front C d = course-front C (omega arith) (λ h. d)

pub below-front : {c : List ℕ} {m : ℕ} → Course c (suc (suc m)) → entry c (suc m) ≡ 0 → Course c m
below-front {m = m} C e = course-front C (omega arith) (λ h z. C.apart m h (omega arith) z e)

-- ---- the pattern

-- by B over a level that is skipped, by A over one that is met
built-b : (c : List ℕ) (m : ℕ) → entry c (suc m) ≡ 0 → built c (suc (suc m)) ≡ step_b (suc (suc m)) (entry c (suc (suc m))) (built c m)
unfolding built
built-b c m e = rw (eq-eqb (entry c (suc m)) 0 e)

built-a : (c : List ℕ) (m : ℕ) → entry c (suc m) ≢ 0 → built c (suc (suc m)) ≡ step_a (suc (suc m)) (entry c (suc (suc m))) (built c (suc m))
unfolding built
built-a c m d = rw (ne_eqb (entry c (suc m)) 0 d)

-- the pattern with no ports
none-pattern : Derangement 0 []
none-pattern =
    record {
      permutation = record { long = refl; ports = λ j h. absurd (omega arith); apart = λ j k h. absurd (omega arith) };
      moved = λ j h. absurd (omega arith);
    }

-- a course makes a pattern
pub built-pattern : (c : List ℕ) (n : ℕ) → Course c n → Derangement n (built c n)
unfolding built
built-pattern c =
    shorter-first (λ n. Course c n → Derangement n (built c n))
    (λ C. none-pattern)
    (λ C. absurd (no-course-1 C))
    (λ m shorter-ones C.
    either (same? (entry c (suc m)) 0)
    (λ e. rw (built-b c m e) (step-derangement by_b m (entry c (suc (suc m))) (built c m) (last_fits C) (shorter-ones by_b (below-front C e))))
    (λ d.
    rw (built-a c m d)
    (step-derangement by_a m (entry c (suc (suc m))) (built c (suc m)) (last_fits C) (shorter-ones by_a (met-front C d)))))

-- ---- one course only

-- A is not B
is_b : Letter → ℕ
is_b by_a = 0
is_b by_b = 1

pub two-letters : by_b ≡ by_a → ⊥
unfolding is_b
two-letters e = let z : ◌≡◌ {A = ℕ} 1 0 = ap is_b e in omega arith

-- what a pattern tells of the last level of its courses: with the letters v and w they choose the same, and go on from the same shorter pattern
last-once : (c d : List ℕ) (m : ℕ) (v w : Letter) → Course c (suc (suc m)) → Course d (suc (suc m)) → built c (suc (suc m)) ≡ built d (suc (suc m))
    → built c (suc (suc m)) ≡ step v (suc (suc m)) (entry c (suc (suc m))) (built c (shorter v (suc (suc m)))) → Course c (shorter v (suc (suc m)))
    → built d (suc (suc m)) ≡ step w (suc (suc m)) (entry d (suc (suc m))) (built d (shorter w (suc (suc m)))) → Course d (shorter w (suc (suc m)))
    → (v ≡ w) × (entry c (suc (suc m)) ≡ entry d (suc (suc m))) × (built c (shorter v (suc (suc m))) ≡ built d (shorter w (suc (suc m))))
last-once c d m v w C D e ec Bc ed Bd =
    let n = suc (suc m) in
    let k = shorter v n in
    let l = shorter w n in
    made-once m v w (entry c n) (entry d n) (built c k) (built d l) (last_fits C) (last_fits D) (built-pattern c k Bc) (built-pattern d l Bd) (sym ec ∙ e ∙ ed)

-- a pattern has no second course: two that make it choose the same at every level
pub only-course : (c d : List ℕ) (n : ℕ) → Course c n → Course d n → built c n ≡ built d n → (k : ℕ) → Among n k → entry c k ≡ entry d k
only-course c d =
    shorter-first (λ n. Course c n → Course d n → built c n ≡ built d n → (k : ℕ) → Among n k → entry c k ≡ entry d k)
    (λ C D e k h. absurd (omega arith))
    (λ C D e k h. absurd (no-course-1 C))
    (λ m shorter-ones C D e k h.
    let n = suc (suc m) in
    either (same? (entry c (suc m)) 0)
    (λ x.
    either (same? (entry d (suc m)) 0)
    (λ y.
    let s = last-once c d m by_b by_b C D e (built-b c m x) (below-front C x) (built-b d m y) (below-front D y) in
    either (same? k n) (λ z. rw z s.1) (λ z.
    either (same? k (suc m)) (λ q. rw q (x ∙ sym y)) (λ q. shorter-ones by_b (below-front C x) (below-front D y) s.2 k (omega arith))))
    (λ y. absurd (two-letters (last-once c d m by_b by_a C D e (built-b c m x) (below-front C x) (built-a d m y) (met-front D y)).0)))
    (λ x.
    either (same? (entry d (suc m)) 0)
    (λ y. absurd (two-letters (sym (last-once c d m by_a by_b C D e (built-a c m x) (met-front C x) (built-b d m y) (below-front D y)).0)))
    (λ y.
    let s = last-once c d m by_a by_a C D e (built-a c m x) (met-front C x) (built-a d m y) (met-front D y) in
    either (same? k n) (λ z. rw z s.1) (λ z. shorter-ones by_a (met-front C x) (met-front D y) s.2 k (omega arith)))))

-- ---- up a course

-- the level above one that is met: if it is met, its step is A
pub up-a : {c : List ℕ} {n m : ℕ} → Course c n → Course c m → m < n → entry c (suc m) ≢ 0
    → Course c (suc m) × Among m (entry c (suc m)) × (built c (suc m) ≡ step_a (suc m) (entry c (suc m)) (built c m))
up-a {m = zero} C B h d = absurd (d (omega (arith, C.below 1 (omega arith))))
up-a {c = c} {m = suc m} C B h d =
    let D = course-front C h (λ l. d) in
    (D, last_fits D, built-a c m (B.met (omega arith)))

-- if it is skipped, the one above it is not, and its step is B
pub up-b : {c : List ℕ} {n m : ℕ} → Course c n → m < n → entry c (suc m) ≡ 0
    → (suc m < n) × Course c (suc (suc m)) × Among (suc m) (entry c (suc (suc m)))
    × (built c (suc (suc m)) ≡ step_b (suc (suc m)) (entry c (suc (suc m))) (built c m))
up-b {c = c} {n = n} {m = m} C h e =
    let top : suc m ≢ n = λ k. C.met (omega arith) (ap (entry c) (sym k) ∙ e) in
    let D = course-front {k = suc (suc m)} C (omega arith) (λ l. C.apart (suc m) (omega arith) (omega arith) e) in
    (omega arith, D, last_fits D, built-b c m e)

-- the shorter pattern has fewer ports
pub shorter-fewer : (w : Letter) (n : ℕ) → 2 ≤ n → shorter w n < n
shorter-fewer w zero h = absurd (omega arith)
shorter-fewer w (suc zero) h = absurd (omega arith)
shorter-fewer by_a (suc (suc m)) h = omega arith
shorter-fewer by_b (suc (suc m)) h = omega arith

-- ---- one level more on a course

pub on-a : {c : List ℕ} {m : ℕ} → Course c (suc m) → Among (suc m) (entry c (suc (suc m))) → Course c (suc (suc m))
on-a {c = c} {m = m} C fits =
    record {
      below = λ k h. either (same? k (suc (suc m))) (λ e. rw e (omega arith)) (λ d. C.below k (omega arith));
      apart = λ k h l e. either (same? k (suc m)) (λ k. absurd (C.met (omega arith) (ap (entry c) (sym k) ∙ e))) (λ d. C.apart k h (omega arith) e);
      met = λ h. omega arith;
    }

pub on-b : {c : List ℕ} {m : ℕ} → Course c m → entry c (suc m) ≡ 0 → Among (suc m) (entry c (suc (suc m))) → Course c (suc (suc m))
on-b {c = c} {m = m} C z fits =
    record {
      below = λ k h.
          either (same? k (suc (suc m))) (λ e. rw e (omega arith))
          (λ d. either (same? k (suc m)) (λ e. rw (e, z) (omega arith)) (λ f. C.below k (omega arith)));
      apart = λ k h l e.
          either (same? k (suc m)) (λ f. rw f (omega arith))
          (λ d. either (same? k m) (λ f. absurd (C.met (omega arith) (ap (entry c) (sym f) ∙ e))) (λ f. C.apart k h (omega arith) e));
      met = λ h. omega arith;
    }

-- ---- down from a pattern

-- at first nothing is chosen
pub traced-start : {n : ℕ} {p : List ℕ} (c : List ℕ) → Traced c n p n p
traced-start c = record { most = omega arith; whole = λ d C same. C }

module _ {n m i : ℕ} {p u t : List ℕ} (c : List ℕ) (T : Traced c n p (suc (suc m)) u) (room : n ≤ length c) (fits : Among (suc m) i) where
  -- the level is that of a step by A
  pub traced-a : step_a (suc (suc m)) i t ≡ u → Traced (set c (suc m) i) n p (suc m) t
  traced-a e =
      let top = T.most in
      record {
        most = omega arith;
        whole = λ d C same.
            let i' : entry d (suc (suc m)) ≡ i = same (suc (suc m)) (omega arith) top ∙ entry-same c (suc m) i (omega arith) in
            T.whole d
            (record {
              course = on-a C.course (rw i' fits);
              makes = built-a d m (C.course.met (omega arith)) ∙ rw (i', C.makes) e;
            })
            (λ k h l. same k (omega arith) l ∙ entry_other c (suc m) i k (omega arith));
      }

  -- or by B, which skips the level below
  pub traced-b : step_b (suc (suc m)) i t ≡ u → Traced (set (set c (suc m) i) m 0) n p m t
  traced-b e =
      let top = T.most in
      let c' = set c (suc m) i in
      record {
        most = omega arith;
        whole = λ d C same.
            let i' : entry d (suc (suc m)) ≡ i =
            same (suc (suc m)) (omega arith) top ∙ entry_other c' m 0 (suc (suc m)) (omega arith) ∙ entry-same c (suc m) i (omega arith) in
            let z : entry d (suc m) ≡ 0 = same (suc m) (omega arith) (omega arith) ∙ entry-same c' m 0 (simp length-set (omega arith)) in
            T.whole d
            (record {
              course = on-b C.course z (rw i' fits);
              makes = built-b d m z ∙ rw (i', C.makes) e;
            })
            (λ k h l. same k (omega arith) l ∙ entry_other c' m 0 k (omega arith) ∙ entry_other c (suc m) i k (omega arith));
      }

-- with no ports left the course is whole
pub traced-end : {n m : ℕ} {p t : List ℕ} (c : List ℕ) → Traced c n p m t → m ≡ 0 → t ≡ [] → CourseOf c n p
unfolding built
traced-end c T e z = T.whole c (rw (e, z) (record { course = course-none c; makes = refl })) (λ k h l. refl)

-- so every pattern has a course: down from it, each level by the step that made the pattern there
module _ (n : ℕ) (p : List ℕ) where
  -- one level down
  step_down : (m : ℕ) (w : Letter) (i : ℕ) (u t c : List ℕ) → Traced c n p (suc (suc m)) t → length c ≡ n → Among (suc m) i → step w (suc (suc m)) i u ≡ t
      → (d : List ℕ) × Traced d n p (shorter w (suc (suc m))) u × (length d ≡ n)
  step_down m by_a i u t c T l fits e = (set c (suc m) i, traced-a c T (omega arith) fits e, simp length-set l)
  step_down m by_b i u t c T l fits e = (set (set c (suc m) i) m 0, traced-b c T (omega arith) fits e, simp length-set l)

  no-jacks : (t : List ℕ) → length t ≡ 0 → t ≡ []
  no-jacks [] e = refl
  no-jacks (x ∷ t) e = absurd (omega arith)

  course-down : (m : ℕ) (t : List ℕ) → Derangement m t → (c : List ℕ) → Traced c n p m t → length c ≡ n → (d : List ℕ) × CourseOf d n p
  course-down =
      shorter-first (λ m. (t : List ℕ) → Derangement m t → (c : List ℕ) → Traced c n p m t → length c ≡ n → (d : List ℕ) × CourseOf d n p)
      (λ t D c T l. (c, traced-end c T refl (no-jacks t D.permutation.long)))
      (λ t D. absurd (not-one t D))
      (λ m shorter-ones t D c T l.
      let x = made m t D in
      let s = step_down m x.by x.i x.from t c T l x.fits (sym x.is) in
      shorter-ones x.by x.from x.pattern s.0 s.1 s.2)

  pub has-course : Derangement n p → (c : List ℕ) × CourseOf c n p
  has-course D = let c : List ℕ = replicate n 0 in course-down n p D c (traced-start c) (length-replicate n 0)
