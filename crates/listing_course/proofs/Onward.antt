-- A course level by level, from the bottom up: which way each list is read, what the move on is one level up, and which rows of the tables an open level can
-- ask for. That the move leads on is in Beside; that it is found on the way down, in Seeking.
-- Assumes nothing.
use mathlib.Core.Path.{◌≡◌, refl, sym, ap, ◌∙◌}
use mathlib.Core.Logic.{◌≢◌}
use mathlib.Core.Bool.{Bool, true, false, not, cond, beq}
use mathlib.Core.List.{List}
use mathlib.Core.Option.{none}
use Prim.Native.Nat.{ℕ, zero, suc, ◌-◌, ◌≤◌}
use native.Mathlib.Omega.{arith}
use lib.Dec.{eqb}
use borrow.Author.Tests.{eq-eqb, ne_eqb, eqb-false, not-true}
use Rattle.listing.specs.Numbers.{Among, before, odd}
use Rattle.listing.specs.Pattern.{entry}
use Rattle.listing.specs.Steps.{Letter, by_a, by_b}
use Rattle.listing.specs.Reading.{other, comes_first}
use Rattle.listing.proofs.Numbers.{less_one, odd-next, from-two}
use Rattle.listing_course.specs.Onward.{read_at, is_open, on_level, goes_on, bottom_read}

-- ---- which way each list is read

-- what holds of each two tests
two-tests : (P : Bool → Bool → Type 0) → P true true → P true false → P false true → P false false → (a b : Bool) → P a b
two-tests P tt tf ft ff true true = tt
two-tests P tt tf ft ff true false = tf
two-tests P tt tf ft ff false true = ft
two-tests P tt tf ft ff false false = ff

-- to agree with b is to be so where b is, and not so where b is not; not to agree is the other way round
pub beq-cond : (a b : Bool) → beq a b ≡ cond b a (not a)
beq-cond = two-tests (λ a b. beq a b ≡ cond b a (not a)) refl refl refl refl

pub beq-other : (a b : Bool) → not (beq a b) ≡ cond b (not a) a
beq-other = two-tests (λ a b. not (beq a b) ≡ cond b (not a) a) refl refl refl refl

-- twice leads back, and with the contrary it is the contrary
beq-twice : (a b : Bool) → beq a (beq a b) ≡ b
beq-twice = two-tests (λ a b. beq a (beq a b) ≡ b) refl refl refl refl

beq-not : (a b : Bool) → beq a (not b) ≡ not (beq a b)
beq-not = two-tests (λ a b. beq a (not b) ≡ not (beq a b)) refl refl refl refl

-- the direction below, read up again, is the direction above
pub comes-twice : (f : Bool) (w : Letter) (i : ℕ) → comes_first (comes_first f w i) w i ≡ f
comes-twice f by_a i = two-tests (λ f o. cond (cond f o (not o)) o (not o) ≡ f) refl refl refl refl f (odd i)
comes-twice f by_b i = two-tests (λ f o. cond (cond f (not o) o) (not o) o ≡ f) refl refl refl refl f (odd i)

-- the other part of the block is read the other way
pub comes-other : (f : Bool) (w : Letter) (i : ℕ) → comes_first f (other w) i ≡ not (comes_first f w i)
comes-other f by_a i = two-tests (λ f o. cond f (not o) o ≡ not (cond f o (not o))) refl refl refl refl f (odd i)
comes-other f by_b i = two-tests (λ f o. cond f o (not o) ≡ not (cond f (not o) o)) refl refl refl refl f (odd i)

-- and so is the same part of the next block
pub comes-next : (f : Bool) (w : Letter) (i : ℕ) → comes_first f w (suc i) ≡ not (comes_first f w i)
comes-next f by_a i = rw (odd-next i) (two-tests (λ f o. cond f (not o) (not (not o)) ≡ not (cond f o (not o))) refl refl refl refl f (odd i))
comes-next f by_b i = rw (odd-next i) (two-tests (λ f o. cond f (not (not o)) (not o) ≡ not (cond f (not o) o)) refl refl refl refl f (odd i))

-- and the same part, if the list is read backward
pub comes_back : (w : Letter) (i : ℕ) → comes_first false w i ≡ not (comes_first true w i)
comes_back by_a i = comes-other true by_a i
comes_back by_b i = comes-other true by_b i

-- the list for 2 ports is read as the bottom is
pub read-bottom : (c : List ℕ) (b : Bool) → read_at c b 2 ≡ b
unfolding read_at
read-bottom c b = refl

-- one level up: turned round if the number is even
pub read_up : (c : List ℕ) (b : Bool) (m : ℕ) → 2 ≤ m → read_at c b (suc m) ≡ beq (odd (entry c (suc m))) (read_at c b m)
unfolding read_at
read_up c b = from-two (λ m. read_at c b (suc m) ≡ beq (odd (entry c (suc m))) (read_at c b m)) (λ m. refl)

-- by A and by B: as the part of the block is read
pub read-a : (c : List ℕ) (b : Bool) (m : ℕ) → 2 ≤ m → read_at c b (suc m) ≡ comes_first (read_at c b m) by_a (entry c (suc m))
read-a c b m h = read_up c b m h ∙ beq-cond (odd (entry c (suc m))) (read_at c b m)

pub read-b : (c : List ℕ) (b : Bool) (m : ℕ) → 2 ≤ m → entry c (suc m) ≡ 0
    → read_at c b (suc (suc m)) ≡ comes_first (read_at c b m) by_b (entry c (suc (suc m)))
unfolding odd
read-b c b m h e =
    let i = entry c (suc (suc m)) in
    let below : read_at c b (suc m) ≡ beq false (read_at c b m) = rw e at (read_up c b m h) in
    read_up c b (suc m) (omega arith) ∙ ap (beq (odd i)) below
    ∙ two-tests (λ g o. beq o (beq false g) ≡ cond g (not o) o) refl refl refl refl (read_at c b m) (odd i)

-- with the bottom read backward every list is read the other way
read-not : (c : List ℕ) (n : ℕ) → read_at c false n ≡ not (read_at c true n)
unfolding read_at
read-not c zero = refl
read-not c (suc zero) = refl
read-not c (suc (suc zero)) = refl
read-not c (suc (suc (suc m))) =
    let a = odd (entry c (suc (suc (suc m)))) in
    ap (beq a) (read-not c (suc (suc m))) ∙ beq-not a (read_at c true (suc (suc m)))

read-from : (c : List ℕ) (b : Bool) (n : ℕ) → read_at c b n ≡ beq (read_at c true n) b
read-from c true n = sym (beq-cond (read_at c true n) true)
read-from c false n = read-not c n ∙ sym (beq-cond (read_at c true n) false)

-- only one way at the bottom gives f at the top, and it does
pub bottom-is : (c : List ℕ) (n : ℕ) (b f : Bool) → read_at c b n ≡ f → b ≡ bottom_read c n f
unfolding bottom_read
bottom-is c n b f e = let r = read_at c true n in sym (beq-twice r b) ∙ ap (beq r) (sym (read-from c b n) ∙ e)

pub read-top : (c : List ℕ) (n : ℕ) (f : Bool) → read_at c (bottom_read c n f) n ≡ f
unfolding bottom_read
read-top c n f = let r = read_at c true n in read-from c (beq r f) n ∙ beq-twice r f

-- ---- the move, one level up

-- with 2 ports the list ends
pub goes-two : (c : List ℕ) (b : Bool) → goes_on c b 2 ≡ none
unfolding goes_on
goes-two c b = refl

-- by A over a level that is met, by B over one that is skipped
pub goes-a : (c : List ℕ) (b : Bool) (m : ℕ) → 2 ≤ m → entry c m ≢ 0
    → goes_on c b (suc m) ≡ on_level (read_at c b m) (read_at c b (suc m)) by_a (suc m) (entry c (suc m)) (goes_on c b m)
unfolding goes_on
goes-a c b zero h d = absurd (omega arith)
goes-a c b (suc zero) h d = absurd (omega arith)
goes-a c b (suc (suc m)) h d = rw (ne_eqb (entry c (suc (suc m))) 0 d)

pub goes-b : (c : List ℕ) (b : Bool) (m : ℕ) → 2 ≤ m → entry c (suc m) ≡ 0
    → goes_on c b (suc (suc m)) ≡ on_level (read_at c b m) (read_at c b (suc (suc m))) by_b (suc (suc m)) (entry c (suc (suc m))) (goes_on c b m)
unfolding goes_on
goes-b c b zero h e = absurd (omega arith)
goes-b c b (suc m) h e = rw (eq-eqb (entry c (suc (suc m))) 0 e)

-- ---- what code asks of the rows

-- where the second part of a block is left for another block, this is not the last that way
not-edge : (inner forward : Bool) (n i : ℕ) → inner ≡ false → is_open inner forward n i ≡ true → i ≢ cond forward (before n) 1
not-edge inner forward n i a o = let edge = cond forward (before n) 1 in eqb-false i edge (not-true (eqb i edge) (rw a at o))

-- so there is a hop to the next block, and backward one from the block before
pub open-forward : (inner forward : Bool) (n i : ℕ) → inner ≡ false → forward ≡ true → is_open inner forward n i ≡ true → Among (before n) i → Among (n - 2) i
open-forward inner forward n i a f o fits = let d = rw f at (not-edge inner forward n i a o) in omega (arith, less_one n)

pub open-backward : (inner forward : Bool) (n i : ℕ) → inner ≡ false → forward ≡ false → is_open inner forward n i ≡ true → Among (before n) i
    → Among (n - 2) (i - 1)
open-backward inner forward n i a f o fits = let d = rw f at (not-edge inner forward n i a o) in omega (arith, less_one n)

-- with 3 ports there is no hop
pub three-shut : (inner forward : Bool) (i : ℕ) → Among 2 i → inner ≡ false → forward ≡ comes_first inner by_a i → is_open inner forward 3 i ≡ false
unfolding odd
three-shut inner forward zero fits a f = absurd (omega arith)
three-shut inner forward (suc zero) fits a f = rw (f, a) refl
three-shut inner forward (suc (suc zero)) fits a f = rw (f, a) refl
three-shut inner forward (suc (suc (suc q))) fits a f = absurd (omega arith)
