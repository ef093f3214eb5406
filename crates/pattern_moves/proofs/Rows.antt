-- The row of an open level, in the numbers that the code has: the joins and the hops, which of them the level asks for, and that it is there.
-- Assumes nothing.
use mathlib.Core.Path.{◌≡◌, refl, sym, ap, ◌∙◌}
use mathlib.Core.Logic.{◌≢◌}
use mathlib.Core.Bool.{Bool, true, false, cond, beq, true≢false}
use mathlib.Core.List.{List}
use Prim.Native.Nat.{ℕ, suc, ◌-◌, ◌≤◌}
use native.Mathlib.Omega.{arith}
use lib.Dec.{eqb}
use lib.ListN.{get_or}
use borrow.Author.Tests.{eq-eqb, ne_eqb, eqb-true}
use Rattle.listing.specs.Numbers.{Among, before, odd}
use Rattle.listing.specs.Pattern.{entry}
use Rattle.listing.specs.Steps.{Letter, by_a}
use Rattle.listing.specs.Reading.{comes_first}
use Rattle.listing.specs.Orders.{Move, one, turn, inverse}
use Rattle.listing.specs.Joins.{join, hop}
use Rattle.listing.proofs.Numbers.{either, same?, less_one, from-two}
use Rattle.listing.proofs.Panels.{entry-below}
use Rattle.pattern_levels.specs.declared.types.Came.TheVariants.{ByA, ByB}
use Rattle.pattern_levels.specs.Levels.{came_of}
use Rattle.listing_course.specs.Course.{Course}
use Rattle.listing_course.specs.Onward.{join_from, hop_from, is_open}
use Rattle.listing_course.specs.Seeking.{letter_if, letter_at, read_over, row_at, Opens}
use Rattle.listing_course.proofs.Onward.{beq-cond, open-forward, open-backward, three-shut}

-- ---- from the one part of a block to the other

-- with 3 ports, where no step is by B, from the first block to the second and back
pub three-first : (b : Bool) (n i : ℕ) → (b ≡ true → 4 ≤ n) → n ≡ 3 → i ≡ 1 → one (turn 1 2 3) ≡ join_from (letter_if b) n i
three-first true n i h e f = absurd (omega (arith, h refl))
three-first false n i h e f = rw (eq-eqb n 3 e, eq-eqb i 1 f) refl

pub three-second : (b : Bool) (n i : ℕ) → (b ≡ true → 4 ≤ n) → n ≡ 3 → i ≢ 1 → one (turn 1 3 2) ≡ join_from (letter_if b) n i
three-second true n i h e d = absurd (omega (arith, h refl))
three-second false n i h e d = rw (eq-eqb n 3 e, ne_eqb i 1 d) refl

-- with more ports from A to B, or back
pub join-either : (b : Bool) (n i : ℕ) (v : Move) → n ≢ 3 → v ≡ join n i → cond b (inverse v) v ≡ join_from (letter_if b) n i
join-either true n i v d e = rw e refl
join-either false n i v d e = rw (ne_eqb n 3 d) e

-- ---- from a block to another

-- to the next, or to the one before it
pub hop-on : (forward : Bool) (n i : ℕ) → forward ≡ true → hop n i ≡ hop_from forward n i
hop-on forward n i e = rw e refl

pub hop-back : (forward : Bool) (n i : ℕ) → forward ≡ false → inverse (hop n (i - 1)) ≡ hop_from forward n i
hop-back forward n i e = rw (e, less_one i) refl

-- ---- a level

-- where the shorter list is read backward, the list is read forward by B in an odd block, and by A in an even one
read-over : (b : Bool) (i : ℕ) → beq (odd i) b ≡ comes_first false (letter_if b) i
read-over true i = beq-cond (odd i) true
read-over false i = beq-cond (odd i) false

-- the number of the level below, where the code has it
level-below : (c : List ℕ) (k : ℕ) → 2 ≤ k → get_or c (k - 2) 0 ≡ entry c (before k)
level-below c = from-two (λ k. get_or c (k - 2) 0 ≡ entry c (before k)) (λ m. let e : suc (suc m) - 2 ≡ m = omega arith in rw e)

-- the step of a level: by B if the level below is skipped, by A if it is met
pub step-skips : (c : List ℕ) (k : ℕ) → 2 ≤ k → get_or c (k - 2) 0 ≡ 0 → ByB (get_or c (k - 1) 0) ≡ came_of (letter_at c k) (entry c k)
step-skips c k h z = rw (eq-eqb (entry c (before k)) 0 (sym (level-below c k h) ∙ z)) (ap ByB (entry-below c k (omega arith)))

pub step-met : (c : List ℕ) (k : ℕ) → 2 ≤ k → get_or c (k - 2) 0 ≢ 0 → ByA (get_or c (k - 1) 0) ≡ came_of (letter_at c k) (entry c k)
step-met c k h d = rw (ne_eqb (entry c (before k)) 0 (λ z. d (level-below c k h ∙ z))) (ap ByA (entry-below c k (omega arith)))

-- level 2 is met, if there is a level above it
second-met : {c : List ℕ} {k : ℕ} → Course c k → 3 ≤ k → entry c 2 ≢ 0
second-met C h = C.apart 1 (omega arith) (omega arith) (omega (arith, C.below 1 (omega arith)))

-- ---- an open level

-- level k is open, its shorter list read inner
module _ {c : List ℕ} {bottom inner : Bool} {k : ℕ} (O : Opens c bottom k inner) where
  -- its number, and whether its step is by B, as the code reads them
  abbrev i : ℕ
  i = get_or c (k - 1) 0

  abbrev skips : Bool
  skips = eqb (get_or c (k - 2) 0) 0

  -- they are those of the course
  number : i ≡ entry c k
  number = let h = O.three in entry-below c k (omega arith)

  letter : letter_if skips ≡ letter_at c k
  letter = let h = O.three in ap (λ (x : ℕ). letter_if (eqb x 0)) (level-below c k (omega arith))

  -- the number is that of a block
  block : Among (before k) (entry c k)
  block = let h = O.three in omega (arith, less_one k, O.course.below k (omega arith), O.course.met (omega arith))

  pub level-block : Among (k - 1) i
  level-block = rw (number, less_one k) block

  -- with 3 ports the step is by A, so that a step by B has 4 or more
  three-a : k ≡ 3 → letter_at c k ≡ by_a
  three-a t = rw t (rw (ne_eqb (entry c 2) 0 (second-met O.course O.three)) refl)

  pub skips-four : skips ≡ true → 4 ≤ k
  skips-four e =
      let h = O.three in
      let z : entry c (before k) ≡ 0 = sym (level-below c k (omega arith)) ∙ eqb-true (get_or c (k - 2) 0) 0 e in
      either (same? k 3) (λ t. absurd (second-met O.course h (rw t at z))) (λ d. omega arith)

  -- where the shorter list is read forward, the row is the join
  pub row-join : inner ≡ true → join_from (letter_if skips) k i ≡ row_at c k inner
  row-join e = rw (e, letter, number) refl

  -- where it is read backward
  module _ (e : inner ≡ false) where
    -- which way the list is read, as the code has it
    abbrev forward : Bool
    forward = beq (odd i) skips

    over : forward ≡ read_over c k inner
    over = read-over skips i ∙ (rw (e, letter, number) refl)

    -- the row is the hop
    pub row-hop : hop_from forward k i ≡ row_at c k inner
    row-hop = rw (over, number) (rw e refl)

    -- which 3 ports do not have
    pub hop-four : 4 ≤ k
    hop-four =
        let h = O.three in
        let f = read_over c k inner in
        let x = entry c k in
        either (same? k 3)
        (λ t.
        let shut = three-shut inner f x (omega (arith, block, less_one k)) e (ap (λ (w : Letter). comes_first inner w x) (three-a t)) in
        absurd (true≢false (sym O.opened ∙ ap (λ (n : ℕ). is_open inner f n x) t ∙ shut)))
        (λ d. omega arith)

    -- and it is there: from this block, or from the one before it
    pub hop-forward : forward ≡ true → Among (k - 2) i
    hop-forward f = rw number (open-forward inner (read_over c k inner) k (entry c k) e (sym over ∙ f) O.opened block)

    pub hop-backward : forward ≡ false → Among (k - 2) (i - 1)
    hop-backward f = rw number (open-backward inner (read_over c k inner) k (entry c k) e (sym over ∙ f) O.opened block)
