-- Why a pattern has its rank (request 5): on the way from rank 0, the level of the pattern and then that of each shorter pattern it comes from, down to 3.
-- Assumes nothing.
use Rattle.std.specs.Prelude.{ℕ, zero, suc, ◌+◌, ◌≤◌, ◌≡◌, Bool, true, false, List, [], ◌∷◌, ◌++◌, map, reverse, length}
use Rattle.listing.specs.Pattern.{entry, Derangement}
use Rattle.listing.specs.Steps.{Letter, by_a, by_b, un_a, un_b, shorter, step, back, letter}
use Rattle.listing.specs.Listing.{listing}
use Rattle.listing.specs.Reading.{comes_first, passed}

-- ---- the record

-- one level: its ports, the entry at the last jack, the step that the pattern came by, whether the shorter list is there read forward, and how many patterns of
-- this level's list are passed over
pub record Level : Type 0 where
  pub ports : ℕ
  pub last : ℕ
  pub by : Letter
  pub forward : Bool
  pub over : ℕ

-- the level of a pattern of n ports that came by w with i, where the list for n ports is read forward or backward
abbrev pub level_by : Bool → ℕ → Letter → ℕ → Level
level_by forward n w i = record { ports = n; last = i; by = w; forward = comes_first forward w i; over = passed forward w n i }

-- the level of the pattern p
abbrev pub level_of : Bool → ℕ → List ℕ → Level
level_of forward n p = level_by forward n (letter n p) (entry p n)

-- the one for A, or the other for B
abbrev pub by_letter : {A : Type 0} → Letter → A → A → A
by_letter by_a x y = x
by_letter by_b x y = y

-- all levels of p that are met, down to 3: its own, and those of the shorter pattern. A step by B skips a level
unfoldable pub levels : Bool → ℕ → List ℕ → List Level
levels forward zero p = []
levels forward (suc zero) p = []
levels forward (suc (suc zero)) p = []
levels forward (suc (suc (suc m))) p =
    let n = suc (suc (suc m)) in
    let i = entry p n in
    by_letter (letter n p)
    (level_by forward n by_a i ∷ levels (comes_first forward by_a i) (suc (suc m)) (un_a n p))
    (level_by forward n by_b i ∷ levels (comes_first forward by_b i) (suc m) (un_b n p))

-- ---- what it is for

-- what was passed over, added up
unfoldable pub total : List Level → ℕ
total [] = 0
total (l ∷ ls) = l.over + total ls

-- the shortest pattern, of 2 ports
abbrev pub shortest : List ℕ
shortest = 2 ∷ 1 ∷ []

-- the pattern that the choices make from the shortest one
unfoldable pub rebuilt : List Level → List ℕ
rebuilt [] = shortest
rebuilt (l ∷ ls) = step l.by l.ports l.last (rebuilt ls)

-- ---- what each level says, of the list itself

-- the list for n ports, read forward or backward
unfoldable pub reading : Bool → ℕ → List (List ℕ)
reading true n = listing n
reading false n = reverse (listing n)

-- the block of a level, A(i) or B(i): the step on each pattern of the shorter list, which is read forward or backward
abbrev pub block_of : ℕ → Level → List (List ℕ)
block_of n l = map (step l.by n l.last) (reading l.forward (shorter l.by n))

-- the list for n ports, read forward or backward, has that block after as many patterns as the level passes over
pub record Passes (forward : Bool) (n : ℕ) (l : Level) : Type 0 where
  pub before : List (List ℕ)
  pub after : List (List ℕ)
  pub there : reading forward n ≡ before ++ (block_of n l ++ after)
  pub many : length before ≡ l.over

-- l is the level of the pattern p of n ports, where the list for n ports is read forward or backward: its numbers are those of p, the shorter list is read
-- the way that relation (2) of document 000 has it, and the block that it names, which holds p, comes after so many patterns
pub record Shows (forward : Bool) (n : ℕ) (p : List ℕ) (l : Level) : Type 0 where
  pub ports : l.ports ≡ n
  pub last : l.last ≡ entry p n
  pub from : List ℕ
  pub pattern : Derangement (shorter l.by n) from
  pub came : p ≡ step l.by n l.last from
  pub read : l.forward ≡ comes_first forward l.by l.last
  pub passes : Passes forward n l

-- level by level down to 3, each is the level of the pattern that the one before leads back to
unfoldable pub Follow : Bool → ℕ → List ℕ → List Level → Type 0
Follow forward n p [] = n ≤ 2
Follow forward n p (l ∷ ls) = (3 ≤ n) × Shows forward n p l × Follow l.forward (shorter l.by n) (back l.by n p) ls
