-- The list by its places: its length is the count, and the pattern made with i from the shorter one of rank s stands at `place`.
-- An even block is an odd one read backwards, so a place is worked out in the odd block and then turned.
-- Assumes nothing.
use mathlib.Core.Path.{◌≡◌, refl, sym, ap, ap₂, ◌∙◌}
use mathlib.Core.Bool.{Bool, true, false}
use mathlib.Core.List.{List, [], ◌∷◌, ◌++◌, map, reverse, reverse-cons, reverse-append, reverse-reverse}
use Prim.Native.Nat.{ℕ, zero, suc, ◌+◌, ◌*◌, ◌<◌}
use native.Mathlib.Nat.{zero-mul, mul-le-mul_right, not-suc-le-zero, le_of_suc-le-suc}
use native.Mathlib.Omega.{arith}
use lib.ListN.{length, get_or, length-append, length-map, length-reverse, get_or-append}
use lib.Seq.{get_or-append_seam, get_or-append-add}
use Rattle.listing.specs.Numbers.{Among, odd}
use Rattle.listing.specs.Count.{count}
use Rattle.listing.specs.Steps.{Letter, by_a, by_b, shorter, step, step_a, step_b}
use Rattle.listing.specs.Listing.{joined, block, blocks, listing, at}
use Rattle.listing.specs.Rank.{from_end, per_block, in_odd, turned, place}
use Rattle.listing.proofs.Numbers.{either, below?}

-- ---- lists by index

module _ {A B : Type 0} where
  -- an element of a mapped list, for any two values past the ends
  pub get_d_map : (f : A → B) (l : List A) (k : ℕ) (d : B) (e : A) → k < length l → get_or (map f l) k d ≡ f (get_or l k e)
  get_d_map f [] k d e h = absurd (not-suc-le-zero h)
  get_d_map f (x ∷ xs) zero d e h = refl
  get_d_map f (x ∷ xs) (suc k) d e h = get_d_map f xs k d e (le_of_suc-le-suc h)

module _ {A : Type 0} where
  -- places j and k as far from the two ends
  mirrored : (l : List A) (j k : ℕ) (d : A) → suc (j + k) ≡ length l → get_or (reverse l) j d ≡ get_or l k d
  mirrored [] j k d h = absurd (let z : suc (j + k) ≡ 0 = h in omega arith)
  mirrored (x ∷ xs) j zero d h =
      let e : j ≡ length (reverse xs) = rw length-reverse (omega arith) in
      rw (reverse-cons, e) (get_or-append_seam (reverse xs) x [] d)
  mirrored (x ∷ xs) j (suc k) d h =
      let b : j < length (reverse xs) = rw length-reverse (omega arith) in
      rw reverse-cons (get_or-append (reverse xs) (x ∷ []) d j b ∙ mirrored xs j k d (omega arith))

  -- the element at place s stands at the place counted from the other end in the reversed list
  pub get_d_reverse : (l : List A) (s : ℕ) (d : A) → s < length l → get_or (reverse l) (from_end (length l) s) d ≡ get_or l s d
  get_d_reverse l s d h = mirrored l (from_end (length l) s) s d (omega arith)

-- ---- turned places

-- a place that is turned twice is the place
pub turned-twice : (b : Bool) (m u : ℕ) → u < m → turned b m (turned b m u) ≡ u
turned-twice true m u h = refl
turned-twice false m u h = omega arith

pub turned-below : (b : Bool) (m u : ℕ) → u < m → turned b m u < m
turned-below true m u h = h
turned-below false m u h = omega arith

pub in_odd-below : (w : Letter) (m s : ℕ) → s < count (shorter w (suc (suc m))) → in_odd w (suc (suc m)) s < per_block (suc (suc m))
in_odd-below by_a m s h = omega arith
in_odd-below by_b m s h = omega arith

-- ---- a block

module _ (xs ys : List (List ℕ)) where
  pub length-joined : (b : Bool) → length (joined b xs ys) ≡ length xs + length ys
  unfolding joined
  length-joined true = simp (length-append, length-reverse)
  length-joined false = simp (length-append, length-reverse) (omega arith)

  -- an even block is an odd one read backwards
  pub even-is-reversed : joined false xs ys ≡ reverse (joined true xs ys)
  unfolding joined
  even-is-reversed = sym (reverse-append xs (reverse ys) ∙ ap (λ (l : List (List ℕ)). l ++ reverse xs) (reverse-reverse ys))

  joined-turned : (b : Bool) (u : ℕ) → u < length xs + length ys
      → get_or (joined b xs ys) (turned b (length xs + length ys) u) [] ≡ get_or (joined true xs ys) u []
  joined-turned true u h = refl
  joined-turned false u h =
      rw (even-is-reversed, ← length-joined true) (get_d_reverse (joined true xs ys) u [] (rw (length-joined true) h))

  -- in an odd block: first A, then B reversed
  odd-a : (s : ℕ) → s < length xs → get_or (joined true xs ys) s [] ≡ get_or xs s []
  unfolding joined
  odd-a s h = get_or-append xs (reverse ys) [] s h

  odd-b : (s : ℕ) → s < length ys → get_or (joined true xs ys) (length xs + from_end (length ys) s) [] ≡ get_or ys s []
  unfolding joined
  odd-b s h = get_or-append-add xs (reverse ys) (from_end (length ys) s) [] ∙ get_d_reverse ys s [] h

-- ---- the blocks

module _ (n : ℕ) (one two : List (List ℕ)) where
  pub length-block : (i : ℕ) → length (block n one two i) ≡ length one + length two
  unfolding block
  length-block i = length-joined (map (step_a n i) one) (map (step_b n i) two) _ ∙ simp length-map

  pub length-blocks : (k : ℕ) → length (blocks n one two k) ≡ k * (length one + length two)
  unfolding blocks
  length-blocks zero = sym (zero-mul (length one + length two))
  length-blocks (suc k) = length-append (blocks n one two k) (block n one two (suc k)) ∙ omega (arith, length-blocks k, length-block (suc k))

  -- place u of block q + 1
  blocks_at : (k q u : ℕ) → q < k → u < length one + length two
      → get_or (blocks n one two k) (q * (length one + length two) + u) [] ≡ get_or (block n one two (suc q)) u []
  unfolding blocks
  blocks_at zero q u hq hu = absurd (omega arith)
  blocks_at (suc k) q u hq hu =
      let len = length-blocks k in
      either (below? q k)
      (λ c.
      let fits : q * (length one + length two) + u < length (blocks n one two k) = omega (arith, mul-le-mul_right (length one + length two) c) in
      get_or-append (blocks n one two k) (block n one two (suc k)) [] (q * (length one + length two) + u) fits
      ∙ blocks_at k q u c hu)
      (λ c.
      let e : q ≡ k = omega arith in
      rw (e, ← len) (get_or-append-add (blocks n one two k) (block n one two (suc k)) u []))

-- ---- the list

-- the list's length is the count
pub length-listing : (n : ℕ) → length (listing n) ≡ count n
unfolding listing count
length-listing zero = refl
length-listing (suc zero) = refl
length-listing (suc (suc m)) =
    length-blocks (suc (suc m)) (listing (suc m)) (listing m) (suc m)
    ∙ ap₂ (λ (x y : ℕ). suc m * (x + y)) (length-listing (suc m)) (length-listing m)

-- place u of block q + 1, the block read as an odd one
in_block : (m q u : ℕ) → q < suc m → u < per_block (suc (suc m))
    → at (suc (suc m)) (q * per_block (suc (suc m)) + turned (odd (suc q)) (per_block (suc (suc m))) u)
    ≡ get_or (joined true (map (step_a (suc (suc m)) (suc q)) (listing (suc m))) (map (step_b (suc (suc m)) (suc q)) (listing m))) u []
unfolding at listing block
in_block m q u hq hu =
    let n = suc (suc m) in
    let a = listing (suc m) in
    let b = listing m in
    let la : length a ≡ count (suc m) = length-listing (suc m) in
    let lb : length b ≡ count m = length-listing m in
    let hu' : u < length a + length b = omega arith in
    let ma : length (map (step_a n (suc q)) a) ≡ length a = length-map a (step_a n (suc q)) in
    let mb : length (map (step_b n (suc q)) b) ≡ length b = length-map b (step_b n (suc q)) in
    rw (← la, ← lb)
    (blocks_at n a b (suc m) q (turned (odd (suc q)) (length a + length b) u) hq (turned-below (odd (suc q)) (length a + length b) u hu')
    ∙ (rw (ma, mb) at (joined-turned (map (step_a n (suc q)) a) (map (step_b n (suc q)) b) (odd (suc q)) u (rw (ma, mb) hu'))))

-- The rule of the list, place by place: the pattern made by the letter w, with i, from the shorter one of rank s
pub at_place : (w : Letter) (m i s : ℕ) → Among (suc m) i → s < count (shorter w (suc (suc m)))
    → at (suc (suc m)) (place w (suc (suc m)) i s) ≡ step w (suc (suc m)) i (at (shorter w (suc (suc m))) s)
unfolding place at
at_place w m zero s fits hs = absurd (omega arith)
at_place by_a m (suc q) s fits hs =
    let n = suc (suc m) in
    let a = listing (suc m) in
    let h : s < length a = rw (length-listing (suc m)) hs in
    in_block m q s (omega arith) (in_odd-below by_a m s hs)
    ∙ odd-a (map (step_a n (suc q)) a) (map (step_b n (suc q)) (listing m)) s (rw length-map h)
    ∙ get_d_map (step_a n (suc q)) a s [] [] h
at_place by_b m (suc q) s fits hs =
    let n = suc (suc m) in
    let xs = map (step_a n (suc q)) (listing (suc m)) in
    let ys = map (step_b n (suc q)) (listing m) in
    let lx : length xs ≡ count (suc m) = length-map (listing (suc m)) (step_a n (suc q)) ∙ length-listing (suc m) in
    let ly : length ys ≡ count m = length-map (listing m) (step_b n (suc q)) ∙ length-listing m in
    in_block m q (in_odd by_b n s) (omega arith) (in_odd-below by_b m s hs)
    ∙ (rw (lx, ly) at (odd-b xs ys s (rw ly hs)))
    ∙ get_d_map (step_b n (suc q)) (listing m) s [] [] (rw (length-listing m) hs)
