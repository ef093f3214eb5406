-- The list for n ports, read forward or backward, has the block of each letter and each i after as many patterns as are passed over (`block-there`), and a
-- pattern at one place only (`only-place`).
-- Assumes nothing.
use mathlib.Core.Path.{◌≡◌, refl, sym, ap, ◌∙◌}
use mathlib.Core.Bool.{Bool, true, false, not, cond}
use mathlib.Core.List.{List, [], ◌∷◌, ◌++◌, map, reverse, map-append, append-nil, append_assoc, reverse-cons, reverse-append, reverse-reverse}
use Prim.Native.Nat.{ℕ, zero, suc, ◌+◌, ◌*◌, ◌-◌, ◌≤◌, ◌<◌}
use native.Mathlib.Nat.{zero-mul}
use native.Mathlib.Omega.{arith}
use lib.ListN.{length, get_or, length-append, length-map, length-reverse}
use Rattle.listing.specs.Numbers.{Among, before, odd}
use Rattle.listing.specs.Pattern.{Derangement}
use Rattle.listing.specs.Count.{count}
use Rattle.listing.specs.Steps.{Letter, by_a, by_b, shorter, step}
use Rattle.listing.specs.Listing.{joined, block, blocks, listing, at}
use Rattle.listing.specs.Rank.{per_block, turned, rank}
use Rattle.listing.specs.Reading.{other, comes_first, passed}
use Rattle.listing.proofs.Numbers.{either, test, same?}
use Rattle.listing.proofs.Places.{length-listing, length-blocks, length-block, turned-twice, turned-below}
use Rattle.listing.proofs.Ranks.{only-rank, at-reversed}
use Rattle.listing_levels.specs.Levels.{Level, level_by, reading, block_of, Passes}

-- ---- the blocks of the list for m + 2 ports

module _ (m : ℕ) where
  abbrev n : ℕ
  n = suc (suc m)

  abbrev first : ℕ → List (List ℕ)
  first k = blocks n (listing (suc m)) (listing m) k

  -- all of A(i), or of B(i), in the order of the shorter list
  abbrev part : Letter → ℕ → List (List ℕ)
  part w i = map (step w n i) (listing (shorter w n))

  part_length : (w : Letter) (i : ℕ) → length (part w i) ≡ count (shorter w n)
  part_length w i = length-map (listing (shorter w n)) (step w n i) ∙ length-listing (shorter w n)

  size : length (listing (suc m)) + length (listing m) ≡ per_block n
  size = omega (arith, length-listing (suc m), length-listing m)

  -- the blocks before block q + 1, that block, and the others
  pub record Around (k q : ℕ) : Type 0 where
    pub others : List (List ℕ)
    pub there : first k ≡ first q ++ (block n (listing (suc m)) (listing m) (suc q) ++ others)
    pub many : length others ≡ (k - suc q) * per_block n

  around : (k q : ℕ) → q < k → Around k q
  unfolding blocks
  around zero q h = absurd (omega arith)
  around (suc k) q h =
      let new = block n (listing (suc m)) (listing m) (suc k) in
      either (same? q k)
      (λ e.
      record {
        others = [];
        there = rw e (ap (λ x. first k ++ x) (sym (append-nil new)));
        many = let none : suc k - suc q ≡ 0 = omega arith in rw none (sym (zero-mul (per_block n)));
      })
      (λ d.
      let A = around k q (omega (arith, d)) in
      let here = block n (listing (suc m)) (listing m) (suc q) in
      let more : suc k - suc q ≡ suc (k - suc q) = omega (arith, d) in
      record {
        others = A.others ++ new;
        there =
            ap (λ x. x ++ new) A.there
            ∙ append_assoc (first q) (here ++ A.others) new
            ∙ ap (λ x. first q ++ x) (append_assoc here A.others new);
        many =
            length-append A.others new
            ∙ omega (arith, A.many, length-block n (listing (suc m)) (listing m) (suc k), size, ap (λ (x : ℕ). x * per_block n) more);
      })

  -- a block that the patterns by w begin, or end: those that end it come from the shorter list read backward
  abbrev halves : Bool → Letter → ℕ → List (List ℕ)
  halves c w i = cond c (part w i ++ reverse (part (other w) i)) (part (other w) i ++ reverse (part w i))

  block-halves : (w : Letter) (i : ℕ) → block n (listing (suc m)) (listing m) i ≡ halves (comes_first true w i) w i
  unfolding block joined
  block-halves by_a i = either (test (odd i)) (λ o. rw o) (λ o. rw o)
  block-halves by_b i = either (test (odd i)) (λ o. rw o) (λ o. rw o)

  -- read backward it is the other way round
  halves-back : (c : Bool) (w : Letter) (i : ℕ) → reverse (halves c w i) ≡ halves (not c) w i
  halves-back true w i = reverse-append (part w i) (reverse (part (other w) i)) ∙ ap (λ x. x ++ reverse (part w i)) (reverse-reverse (part (other w) i))
  halves-back false w i = reverse-append (part (other w) i) (reverse (part w i)) ∙ ap (λ x. x ++ reverse (part (other w) i)) (reverse-reverse (part w i))

  first_back : (w : Letter) (i : ℕ) → not (comes_first true w i) ≡ comes_first false w i
  first_back by_a i = refl
  first_back by_b i = either (test (odd i)) (λ o. rw o) (λ o. rw o)

  -- the list, read forward or backward: some blocks, block q + 1, and the others
  record Read (forward : Bool) (w : Letter) (q : ℕ) : Type 0 where
    some : List (List ℕ)
    others : List (List ℕ)
    there : reading forward n ≡ some ++ (halves (comes_first forward w (suc q)) w (suc q) ++ others)
    many : length some ≡ cond forward q (n - suc (suc q)) * per_block n

  read : (forward : Bool) (w : Letter) (q : ℕ) → q < suc m → Read forward w q
  unfolding reading listing
  read true w q h =
      let A = around (suc m) q h in
      record {
        some = first q;
        others = A.others;
        there = A.there ∙ ap (λ x. first q ++ (x ++ A.others)) (block-halves w (suc q));
        many = length-blocks n (listing (suc m)) (listing m) q ∙ ap (λ (x : ℕ). q * x) size;
      }
  read false w q h =
      let A = around (suc m) q h in
      let here = block n (listing (suc m)) (listing m) (suc q) in
      let turns : reverse here ≡ halves (comes_first false w (suc q)) w (suc q) =
      ap reverse (block-halves w (suc q))
      ∙ halves-back (comes_first true w (suc q)) w (suc q)
      ∙ ap (λ c. halves c w (suc q)) (first_back w (suc q)) in
      record {
        some = reverse A.others;
        others = reverse (first q);
        there =
            ap reverse A.there
            ∙ reverse-append (first q) (here ++ A.others)
            ∙ ap (λ x. x ++ reverse (first q)) (reverse-append here A.others)
            ∙ append_assoc (reverse A.others) (reverse here) (reverse (first q))
            ∙ ap (λ x. reverse A.others ++ (x ++ reverse (first q))) turns;
        many = let less : suc m - suc q ≡ n - suc (suc q) = omega arith in length-reverse A.others ∙ A.many ∙ ap (λ (x : ℕ). x * per_block n) less;
      }

-- a mapped list backward
map-reverse : {A B : Type 0} (f : A → B) (l : List A) → map f (reverse l) ≡ reverse (map f l)
map-reverse f [] = refl
map-reverse f (x ∷ l) =
    ap (map f) (reverse-cons x l) ∙ map-append f (reverse l) (x ∷ []) ∙ ap (λ k. k ++ (f x ∷ [])) (map-reverse f l) ∙ sym (reverse-cons (f x) (map f l))

-- so the block of a letter and an i of 1 to n - 1 comes after those that are passed over
pub block-there : (forward : Bool) (w : Letter) (m i : ℕ) → Among (suc m) i → Passes forward (suc (suc m)) (level_by forward (suc (suc m)) w i)
unfolding reading passed
block-there forward w m zero h = absurd (omega arith)
block-there forward w m (suc q) h =
    let R = read m forward w q (omega arith) in
    let mine = part m w (suc q) in
    let theirs = part m (other w) (suc q) in
    either (test (comes_first forward w (suc q)))
    (λ c.
    record {
      before = R.some;
      after = reverse theirs ++ R.others;
      there = rw c (rw c at R.there ∙ ap (λ x. R.some ++ x) (append_assoc mine (reverse theirs) R.others));
      many = rw c (R.many ∙ omega arith);
    })
    (λ c.
    record {
      before = R.some ++ theirs;
      after = R.others;
      there =
          rw c
          (rw c at R.there
          ∙ ap (λ x. R.some ++ x) (append_assoc theirs (reverse mine) R.others)
          ∙ sym (append_assoc R.some theirs (reverse mine ++ R.others))
          ∙ ap (λ x. (R.some ++ theirs) ++ (x ++ R.others)) (sym (map-reverse (step w (suc (suc m)) (suc q)) (listing (shorter w (suc (suc m)))))));
      many = rw c (length-append R.some theirs ∙ omega (arith, R.many, part_length m (other w) (suc q)));
    })

-- ---- places in the list, read forward or backward

-- it is as long as the list
pub reading-length : (forward : Bool) (n : ℕ) → length (reading forward n) ≡ count n
unfolding reading
reading-length true n = length-listing n
reading-length false n = length-reverse (listing n) ∙ length-listing n

-- the pattern of a rank stands there at its place
pub reading-at : (forward : Bool) (n r : ℕ) → r < count n → get_or (reading forward n) (turned forward (count n) r) [] ≡ at n r
unfolding reading at
reading-at true n r h = refl
reading-at false n r h = at-reversed n r h

-- and a pattern stands at no other place than that of its rank
pub only-place : (forward : Bool) (n : ℕ) (p : List ℕ) (k : ℕ) → k < length (reading forward n) → get_or (reading forward n) k [] ≡ p
    → k ≡ turned forward (count n) (rank n p)
only-place forward n p k h e =
    let below : k < count n = rw (reading-length forward n) at h in
    let twice = turned-twice forward (count n) k below in
    let r = turned forward (count n) k in
    let inside = turned-below forward (count n) k below in
    sym twice ∙ ap (turned forward (count n)) (only-rank n p r inside (sym (reading-at forward n r inside) ∙ ap (λ j. get_or (reading forward n) j []) twice ∙ e))
