-- What the check accepts: exactly the patterns of 2 to `most` ports and, as a panel, exactly the permutations.
-- Assumes nothing.
use mathlib.Core.Path.{◌≡◌, refl, sym}
use mathlib.Core.Bool.{Bool, true, false, cond, true≢false}
use mathlib.Core.List.{List}
use Prim.Native.Nat.{ℕ, ◌≤◌}
use lib.ListN.{length}
use Rattle.listing.specs.Pattern.{Permutation, Derangement}
use Rattle.words.specs.Told.{nowhere, Told, accepted, refused}
use Rattle.pattern_check.specs.Faults.{Fault, sound, outside, repeated, own_jack, fault_of, fault_told}
use Rattle.pattern_check.specs.Calls.{in_size, sized, check_as, check_of}
use Rattle.pattern_check.proofs.Sound.{panel-permutation, permutation-panel, check-derangement, derangement-check}
use Rattle.pattern_check.proofs.Calls.{check-fault, size-within}

-- p has 2 to `most` ports and, for so many, is what `Is` says
pub record Accepted (Is : ℕ → List ℕ → Type 0) (most : ℕ) (p : List ℕ) : Type 0 where
  pub low : 2 ≤ length p
  pub high : length p ≤ most
  pub is : Is (length p) p

-- p is a pattern of 2 to `most` ports
abbrev pub Pattern : ℕ → List ℕ → Type 0
Pattern most p = Accepted Derangement most p

-- p is a panel of 2 to `most` ports
abbrev pub Panel : ℕ → List ℕ → Type 0
Panel most p = Accepted Permutation most p

-- only no fault tells nothing
told-sound : (f : Fault) → accepted (tt {0}) ≡ fault_told f (tt {0}) → f ≡ sound
told-sound sound e = refl
told-sound (outside j) e = cc
told-sound (repeated j k) e = cc
told-sound (own_jack j) e = cc

-- what `sized` accepts is of a size, and accepted within
sized-parts : (size : Bool) (t : Told (Unit {0})) → accepted tt ≡ cond size t (refused 1 nowhere) → (size ≡ true) × (accepted tt ≡ t)
sized-parts true t e = (refl, e)
sized-parts false t e = absurd (true≢false (cc))

-- what the check accepts has 2 to `most` jacks, and none of them is at fault
accepted-parts : (pattern : Bool) (most : ℕ) (p : List ℕ) → accepted tt ≡ check_as pattern most p
    → (2 ≤ length p) × (length p ≤ most) × (fault_of pattern p ≡ sound)
unfolding check_as sized
accepted-parts pattern most p e =
    let t = sized-parts (in_size most (length p)) (fault_told (fault_of pattern p) tt) e in
    let size = size-within most (length p) (sym t.0) refl in
    (size.0, size.1, told-sound (fault_of pattern p) t.1)

-- so it is a pattern
pub accepted-pattern : (most : ℕ) (p : List ℕ) → accepted tt ≡ check_of most p → Pattern most p
accepted-pattern most p e =
    let t = accepted-parts true most p e in
    record { low = t.0; high = t.1; is = check-derangement p t.2 }

-- and each of those is accepted
pub pattern-accepted : (most : ℕ) (p : List ℕ) → Pattern most p → accepted tt ≡ check_of most p
pattern-accepted most p P = check-fault true most p sound P.low P.high (sym (derangement-check p P.is))

-- what it accepts as a panel is a permutation
pub accepted-panel : (most : ℕ) (p : List ℕ) → accepted tt ≡ check_as false most p → Panel most p
accepted-panel most p e =
    let t = accepted-parts false most p e in
    record { low = t.0; high = t.1; is = panel-permutation false p t.2 }

-- and each permutation is accepted, with a port at its own jack or without
pub panel-accepted : (most : ℕ) (p : List ℕ) → Panel most p → accepted tt ≡ check_as false most p
panel-accepted most p P = check-fault false most p sound P.low P.high (sym (permutation-panel p P.is))
