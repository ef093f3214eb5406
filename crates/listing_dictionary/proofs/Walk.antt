-- A walk through the free ports with a share for each: what is passed over, in whose share a number falls, and what stands at a place of the joined lists.
-- Assumes nothing.
use mathlib.Core.Path.{◌≡◌, refl, ap, ◌∙◌}
use mathlib.Core.Logic.{◌≢◌, inl, inr}
use mathlib.Core.List.{List, [], ◌∷◌, flat_map}
use Prim.Native.Nat.{ℕ, ◌+◌, ◌-◌, ◌≤◌, ◌<◌}
use native.Mathlib.Omega.{arith}
use lib.ListN.{length, get_or, length-append, get_or-append}
use lib.Seq.{get_or-append-add}
use borrow.Author.Tests.{eq-eqb, ne_eqb, lt-ltb, le-ltb}
use Rattle.listing.proofs.Numbers.{either, below?, same?}
use Rattle.listing_dictionary.specs.Number.{passed, chosen, within}
use Rattle.listing_dictionary.proofs.Lists.{Has}
use Rattle.listing_dictionary.proofs.Free.{Above, above-all, has_on}

-- ---- the shares together

-- the shares of all ports of ys
unfoldable pub total : (ℕ → ℕ) → List ℕ → ℕ
total size [] = 0
total size (y ∷ ys) = size y + total size ys

pub passed_here : (size : ℕ → ℕ) (x y : ℕ) (ys : List ℕ) → y ≡ x → passed size (y ∷ ys) x ≡ 0
unfolding passed
passed_here size x y ys e = rw (eq-eqb y x e)

pub passed_on : (size : ℕ → ℕ) (x y : ℕ) (ys : List ℕ) → y ≢ x → passed size (y ∷ ys) x ≡ size y + passed size ys x
unfolding passed
passed_on size x y ys e = rw (ne_eqb y x e)

module _ (size : ℕ → ℕ) where
  -- what is passed over before x, and the share of x, are no more than all
  pub passed-room : (x : ℕ) (ys : List ℕ) → Has x ys → passed size ys x + size x ≤ total size ys
  unfolding total
  passed-room x [] h = absurd h
  passed-room x (y ∷ ys) h =
      either (same? y x)
      (λ e. rw (passed_here size x y ys e, e) (omega arith))
      (λ ne. rw (passed_on size x y ys ne) (omega (arith, passed-room x ys (has_on x y ys ne h))))

  -- before a greater port also the share of x is passed over
  pub passed-less : (x z a : ℕ) (ys : List ℕ) → Above a ys → Has x ys → Has z ys → x < z → passed size ys x + size x ≤ passed size ys z
  passed-less x z a [] r hx hz l = absurd hx
  passed-less x z a (y ∷ ys) r hx (inl e) l =
      absurd (either hx (λ f. omega arith) (λ g. let b : y < x = above-all y x ys r.1 g in omega arith))
  passed-less x z a (y ∷ ys) r hx (inr hz) l =
      let b : y < z = above-all y z ys r.1 hz in
      let nz : y ≢ z = λ e. omega arith in
      either (same? y x)
      (λ e. rw (passed_here size x y ys e, passed_on size z y ys nz, e) (omega arith))
      (λ ne.
      rw (passed_on size x y ys ne, passed_on size z y ys nz)
      (omega (arith, passed-less x z y ys r.1 (has_on x y ys ne hx) hz l)))

  -- ---- in whose share a number falls

  -- the number k falls in the share of c, as number s there
  pub record Choice (ys : List ℕ) (k c s : ℕ) : Type 0 where
    pub there : Has c ys
    pub below : s < size c
    pub sum : passed size ys c + s ≡ k

  choice-on : (y : ℕ) (ys : List ℕ) (k c s : ℕ) → Above y ys → size y ≤ k → Choice ys (k - size y) c s → Choice (y ∷ ys) k c s
  choice-on y ys k c s r h C =
      let b : y < c = above-all y c ys r C.there in
      record { there = inr C.there; below = C.below; sum = rw (passed_on size c y ys (λ e. omega arith)) (omega (arith, C.sum)) }

  -- it falls in the share of the first, or further on
  pub chosen-here : (y : ℕ) (ys : List ℕ) (k : ℕ) → k < size y → (chosen size (y ∷ ys) k ≡ y) × (within size (y ∷ ys) k ≡ k)
  unfolding chosen within
  chosen-here y ys k b = (rw (lt-ltb k (size y) b), rw (lt-ltb k (size y) b))

  pub chosen_on : (y : ℕ) (ys : List ℕ) (k : ℕ) → size y ≤ k
      → (chosen size (y ∷ ys) k ≡ chosen size ys (k - size y)) × (within size (y ∷ ys) k ≡ within size ys (k - size y))
  unfolding chosen within
  chosen_on y ys k b = (rw (le-ltb k (size y) b), rw (le-ltb k (size y) b))

  pub choice : (a : ℕ) (ys : List ℕ) (k : ℕ) → Above a ys → k < total size ys → Choice ys k (chosen size ys k) (within size ys k)
  unfolding total
  choice a [] k r h = absurd (omega arith)
  choice a (y ∷ ys) k r h =
      either (below? k (size y))
      (λ b.
      let c = chosen-here y ys k b in
      rw (c.0, c.1) (record { there = inl refl; below = b; sum = rw (passed_here size y y ys refl) (omega arith) }))
      (λ b.
      let c = chosen_on y ys k b in
      rw (c.0, c.1)
      (choice-on y ys k (chosen size ys (k - size y)) (within size ys (k - size y)) r.1 b (choice y ys (k - size y) r.1 (omega arith))))

-- ---- the lists of the ports, joined

module _ (piece : ℕ → List (List ℕ)) (size : ℕ → ℕ) where
  pub length-pieces : (ys : List ℕ) → ((y : ℕ) → Has y ys → length (piece y) ≡ size y) → length (flat_map piece ys) ≡ total size ys
  unfolding flat_map total
  length-pieces [] each = refl
  length-pieces (y ∷ ys) each =
      rw length-append (omega (arith, each y (inl refl), length-pieces ys (λ z h. each z (inr h))))

  -- place s of the list of x
  pub at_piece : (x s : ℕ) (ys : List ℕ) → ((y : ℕ) → Has y ys → length (piece y) ≡ size y) → Has x ys → s < size x
      → get_or (flat_map piece ys) (passed size ys x + s) [] ≡ get_or (piece x) s []
  unfolding flat_map
  at_piece x s [] each h b = absurd h
  at_piece x s (y ∷ ys) each h b =
      let len : length (piece y) ≡ size y = each y (inl refl) in
      either (same? y x)
      (λ e.
      let first : 0 + s ≡ s = omega arith in
      let room : s < length (piece x) = omega (arith, ap size e, ap (λ (z : ℕ). length (piece z)) e) in
      rw (passed_here size x y ys e, e, first) (get_or-append (piece x) (flat_map piece ys) [] s room))
      (λ ne.
      let sum : size y + passed size ys x + s ≡ length (piece y) + (passed size ys x + s) = omega arith in
      rw (passed_on size x y ys ne, sum)
      (get_or-append-add (piece y) (flat_map piece ys) (passed size ys x + s) []
      ∙ at_piece x s ys (λ z m. each z (inr m)) (has_on x y ys ne h) b))
