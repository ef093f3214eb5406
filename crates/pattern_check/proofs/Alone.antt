-- Which refusal the check gives, and in which order, is what the paper lists: without the second number it tells what the paper's own definition tells.
-- Assumes nothing.
use mathlib.Core.Path.{◌≡◌, refl}
use mathlib.Core.Bool.{Bool, true, false, cond}
use mathlib.Core.List.{List}
use Prim.Native.Nat.{ℕ}
use lib.ListN.{length}
use Rattle.words.specs.Told.{refused, nowhere, told_alone}
use Rattle.pattern_check.specs.Faults.{Fault, sound, outside, repeated, own_jack, fault_of, fault_told, paper_told}
use Rattle.pattern_check.specs.Calls.{in_size, sized, check_as, paper_check}

pub check-alone : (pattern : Bool) (most : ℕ) (p : List ℕ) → told_alone (check_as pattern most p) ≡ paper_check pattern most p
unfolding check_as paper_check sized
check-alone pattern most p = by (in_size most (length p)) (fault_of pattern p)
  where
    by : (size : Bool) (f : Fault) → told_alone (cond size (fault_told f (tt {0})) (refused 1 nowhere)) ≡ cond size (paper_told f tt) (refused 1 nowhere)
    by false f = refl
    by true sound = refl
    by true (outside j) = refl
    by true (repeated j i) = refl
    by true (own_jack j) = refl
