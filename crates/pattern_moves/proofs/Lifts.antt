-- A move of a shorter list, lifted up a course as the code lifts it: each level above, and that at the top it is the move beside the pattern.
-- Assumes nothing.
use mathlib.Core.Path.{◌≡◌, refl, sym, ap, ◌∙◌}
use mathlib.Core.Logic.{◌≢◌}
use mathlib.Core.Bool.{Bool, not, cond}
use mathlib.Core.List.{List}
use mathlib.Core.Option.{some}
use Prim.Native.Nat.{ℕ, suc, ◌+◌, ◌≤◌, ◌<◌}
use native.Mathlib.Numerals.{add-one}
use native.Mathlib.Omega.{arith}
use lib.ListN.{get_or}
use Rattle.listing.specs.Limits.{most_ports}
use Rattle.listing.specs.Orders.{Move, InForm, inverse, raised}
use Rattle.listing.specs.Joins.{closing}
use Rattle.listing.proofs.Lifting.{form-more}
use Rattle.listing_course.specs.Course.{Course}
use Rattle.listing_course.specs.Onward.{read_at, goes_on, or_closing, course_move}
use Rattle.listing_course.specs.Seeking.{row_at, Sought, Lifted}
use Rattle.listing_course.proofs.Courses.{up-a, up-b}
use Rattle.listing_course.proofs.Onward.{bottom-is, goes-a, goes-b}
use Rattle.listing_course.proofs.Beside.{goes-form}

-- ---- up the course

-- move w of the list for k ports, lifted to m ports, is move v
module _ (c : List ℕ) (k m : ℕ) (w v : Move) (B : Course c m) (two : 2 ≤ m) (L : Lifted c k w m v) where
  -- where the list for k goes on by w, move v is in form for the device
  pub lifted-fits : m ≤ most_ports → (bottom : Bool) × (goes_on c bottom k ≡ some w) → InForm most_ports v
  lifted-fits h e = form-more m most_ports v h (goes-form c e.0 m v two B (L e.0 e.1))

  -- the next level is met: by A the move stays as it is
  pub lift-a : {n : ℕ} → Course c n → m < n → get_or c m 0 ≢ 0 → Course c (m + 1) × Lifted c k w (m + 1) v
  lift-a C h d = rw add-one ((up-a C B h d).0, λ b e. goes-a c b m two (B.met (omega arith)) ∙ rw (L b e) refl)

  -- it is skipped: by B the move is raised
  pub lift-b : {n : ℕ} → Course c n → m < n → get_or c m 0 ≡ 0 → Course c (m + 2) × Lifted c k w (m + 2) (raised (get_or c (m + 1) 0) v)
  lift-b C h z =
      let y : m + 2 ≡ suc (suc m) = omega arith in
      rw (y, add-one) ((up-b C h z).1, λ b e. goes-b c b m two z ∙ rw (L b e) refl)

-- ---- at the top

-- the move of the list, read forward or backward, is the move beside, where it goes on and where it ends
beside-is : (c : List ℕ) (n : ℕ) (back bottom : Bool) → read_at c bottom n ≡ not back → or_closing back n (goes_on c bottom n) ≡ course_move c n back
unfolding course_move
beside-is c n back bottom e = ap (λ b. or_closing back n (goes_on c b n)) (bottom-is c n bottom (not back) e)

-- level k is where the list goes on, its shorter list read inner
module _ (c : List ℕ) (n k : ℕ) (back inner : Bool) (S : Sought c n back k inner) where
  -- where no level is open, the move beside is the closing step
  pub sought-ends : k ≡ 0 → cond back (inverse (closing n)) (closing n) ≡ course_move c n back
  sought-ends z = ap (or_closing back n) (sym (S.2.ends z)) ∙ beside-is c n back S.0 S.1

  -- else it is the row of that level, lifted
  pub sought-goes : k ≢ 0 → (v : Move) → Lifted c k (row_at c k inner) n v → v ≡ course_move c n back
  sought-goes d v L = ap (or_closing back n) (sym (L S.0 (S.2.opens d).goes)) ∙ beside-is c n back S.0 S.1
