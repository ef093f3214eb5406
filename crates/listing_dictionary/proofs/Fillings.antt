-- The fillings of the jacks after the first i with the free ports: how many there are, and each at its number. By induction on the jacks left.
-- Assumes nothing.
use mathlib.Core.Path.{◌≡◌, refl, sym, ap, ◌∙◌, subst}
use mathlib.Core.Logic.{◌≢◌, inl, inr}
use mathlib.Core.List.{List, [], ◌∷◌}
use Prim.Native.Nat.{ℕ, zero, suc, ◌+◌, ◌*◌, ◌-◌, ◌≤◌, ◌<◌}
use native.Mathlib.Omega.{arith}
use lib.ListN.{length, get_or, length-map}
use borrow.Author.Tests.{eq-eqb, ne_eqb, lt-ltb, le-ltb}
use Rattle.listing.specs.Numbers.{before}
use Rattle.listing.proofs.Numbers.{either, below?, same?}
use Rattle.listing.proofs.Places.{get_d_map}
use Rattle.listing_dictionary.specs.Order.{Precedes, Sorted}
use Rattle.listing_dictionary.specs.Free.{without, later}
use Rattle.listing_dictionary.specs.Completions.{completions}
use Rattle.listing_dictionary.specs.Dictionary.{beginning, fillings}
use Rattle.listing_dictionary.specs.Number.{worth, share, passed, number_from, chosen, within, numbered_from}
use Rattle.listing_dictionary.proofs.Lists.{Has, no_length}
use Rattle.listing_dictionary.proofs.Order.{precedes-total}
use Rattle.listing_dictionary.proofs.Free.{Left, left-without, earlier, earlier-yes, earlier-no, earlier-later}
use Rattle.listing_dictionary.proofs.Free.{later-none, later-yes, later-no, later-without, later-bound, own-port?}
use Rattle.listing_dictionary.proofs.Completions.{completions-own, completions-rest, one_way}
use Rattle.listing_dictionary.proofs.Walk.{total, passed-room, passed-less, Choice, choice, length-pieces, at_piece}

-- ---- the share of a port

worth-own : (early late j y : ℕ) → y ≡ j → worth early late j y ≡ 0
unfolding worth
worth-own early late j y e = rw (eq-eqb y j e)

worth-early : (early late j y : ℕ) → y < j → worth early late j y ≡ early
unfolding worth
worth-early early late j y b = rw (ne_eqb y j (λ e. omega arith), le-ltb j y (omega arith))

worth-late : (early late j y : ℕ) → j < y → worth early late j y ≡ late
unfolding worth
worth-late early late j y b = rw (ne_eqb y j (λ e. omega arith), lt-ltb j y b)

-- all ports together: each kind counts alike
worth-total : (early late j : ℕ) (ys : List ℕ) → total (worth early late j) ys ≡ earlier j ys * early + later j ys * late
unfolding total earlier later
worth-total early late j [] = omega arith
worth-total early late j (y ∷ ys) =
    let rest = worth-total early late j ys in
    either (below? y j)
    (λ b. rw (earlier-yes j y ys b, later-no j y ys (omega arith), worth-early early late j y b) (omega arith))
    (λ b.
    either (same? y j)
    (λ e. rw (earlier-no j y ys b, later-no j y ys (omega arith), worth-own early late j y e) (omega arith))
    (λ ne. rw (earlier-no j y ys b, later-yes j y ys (omega arith), worth-late early late j y (omega arith)) (omega arith)))

module _ (m i : ℕ) (free : List ℕ) where
  -- the jack's own port has none
  share-own : (y : ℕ) → y ≡ suc i → share m i free y ≡ 0
  share-own y e = worth-own _ _ (suc i) y e

  -- any other free port has as many as there are ways to go on without it
  share_other : (y : ℕ) → Has y free → y ≢ suc i → share m i free y ≡ completions m (later (suc i) (without y free))
  share_other y h ne =
      either (later-without (suc i) y free h)
      (λ c. worth-late _ _ (suc i) y c.0 ∙ ap (λ (k : ℕ). completions m (before k)) c.1)
      (λ c. worth-early _ _ (suc i) y (omega (arith, c.0)) ∙ ap (completions m) c.1)

  -- the shares of all the free ports: the completions of one jack more
  pub all-shares : Left i (suc m) free → total (share m i free) free ≡ completions (suc m) (later i free)
  all-shares L =
      let k = later (suc i) free in
      let e = earlier (suc i) free in
      let parts : e + later i free ≡ length free = earlier-later i free in
      worth-total _ _ (suc i) free ∙
      either (own-port? i 0 free L.up)
      (λ c. rw c.1 (sym (completions-own k e m (omega (arith, L.long)))))
      (λ c.
      let bound : k ≤ i + suc m - suc i = later-bound (suc i) (i + suc m) 0 free L.up L.top in
      rest c.1 bound parts L.long)
    where
      rest : later i free ≡ later (suc i) free → later (suc i) free ≤ i + suc m - suc i
          → earlier (suc i) free + later i free ≡ length free → length free ≡ suc m
          → earlier (suc i) free * completions m (later (suc i) free) + later (suc i) free * completions m (before (later (suc i) free))
          ≡ completions (suc m) (later i free)
      rest same bound parts long =
          let e = m - later (suc i) free in
          let more : earlier (suc i) free ≡ suc e = omega arith in
          rw (same, more) (sym (completions-rest (later (suc i) free) e m (omega arith)))

-- ---- how many

length-beginning : (j y : ℕ) (rest : List (List ℕ)) → y ≢ j → length (beginning j y rest) ≡ length rest
unfolding beginning
length-beginning j y rest ne = rw (ne_eqb y j ne) (length-map rest (λ (q : List ℕ). y ∷ q))

no-beginning : (j y : ℕ) (rest : List (List ℕ)) → y ≡ j → length (beginning j y rest) ≡ 0
unfolding beginning
no-beginning j y rest e = rw (eq-eqb y j e)

at-beginning : (j y s : ℕ) (rest : List (List ℕ)) → y ≢ j → s < length rest → get_or (beginning j y rest) s [] ≡ y ∷ get_or rest s []
unfolding beginning
at-beginning j y s rest ne h = rw (ne_eqb y j ne) (get_d_map (λ (q : List ℕ). y ∷ q) rest s [] [] h)

-- with no jack left there is one way
completions-none : (i : ℕ) (free : List ℕ) → Left i 0 free → completions 0 (later i free) ≡ 1
completions-none i free L = rw (no_length free L.long, later-none i) one_way

-- the fillings that begin with y
abbrev piece : ℕ → ℕ → List ℕ → ℕ → List (List ℕ)
piece m i free y = beginning (suc i) y (fillings m (suc i) (without y free))

-- they are its share, given how many ways the rest has
piece-share : (m i : ℕ) (free : List ℕ) (y : ℕ) → Has y free
    → length (fillings m (suc i) (without y free)) ≡ completions m (later (suc i) (without y free))
    → length (piece m i free y) ≡ share m i free y
piece-share m i free y h rest =
    either (same? y (suc i))
    (λ e. no-beginning (suc i) y (fillings m (suc i) (without y free)) e ∙ sym (share-own m i free y e))
    (λ ne. length-beginning (suc i) y (fillings m (suc i) (without y free)) ne ∙ rest ∙ sym (share_other m i free y h ne))

-- as many fillings as completions
pub length-fillings : (m i : ℕ) (free : List ℕ) → Left i m free → length (fillings m i free) ≡ completions m (later i free)
unfolding fillings
length-fillings zero i free L = sym (completions-none i free L)
length-fillings (suc m) i free L =
    length-pieces (piece m i free) (share m i free) free
    (λ y h. piece-share m i free y h (length-fillings m (suc i) (without y free) (left-without i m y free L h)))
    ∙ all-shares m i free L

length-piece : (m i : ℕ) (free : List ℕ) → Left i (suc m) free → (y : ℕ) → Has y free → length (piece m i free y) ≡ share m i free y
length-piece m i free L y h = piece-share m i free y h (length-fillings m (suc i) (without y free) (left-without i m y free L h))

-- ---- panels that fit

-- p fills jacks after the first i with free ports, none at its own jack
abbrev pub Fits : ℕ → List ℕ → List ℕ → Type 0
Fits i free [] = Unit {0}
Fits i free (x ∷ p) = Has x free × (x ≢ suc i) × Fits (suc i) (without x free) p

-- p fills m jacks
abbrev pub Fills : ℕ → ℕ → List ℕ → List ℕ → Type 0
Fills m i free p = (length p ≡ m) × Fits i free p

-- ---- number and place

-- what a filling adds at its first jack
pub number-cons : (m i x : ℕ) (free p : List ℕ) → length p ≡ m
    → number_from i free (x ∷ p) ≡ passed (share m i free) free x + number_from (suc i) (without x free) p
unfolding number_from
number-cons m i x free p e = rw e

-- the number is below the completions
pub number-below : (m i : ℕ) (free p : List ℕ) → Left i m free → Fills m i free p → number_from i free p < completions m (later i free)
unfolding number_from
number-below zero i free [] L F = rw (completions-none i free L) (omega arith)
number-below zero i free (x ∷ p) L F = absurd (omega (arith, F.0))
number-below (suc m) i free [] L F = absurd (omega (arith, F.0))
number-below (suc m) i free (x ∷ p) L F =
    let long : length p ≡ m = omega (arith, F.0) in
    let h : Has x free = F.1.0 in
    let s = number-below m (suc i) (without x free) p (left-without i m x free L h) (long, F.1.2) in
    rw long (omega (arith, s, share_other m i free x F.1.0 F.1.1, passed-room (share m i free) x free h, all-shares m i free L))

-- a filling stands in the list at its number
pub at-number : (m i : ℕ) (free p : List ℕ) → Left i m free → Fills m i free p → get_or (fillings m i free) (number_from i free p) [] ≡ p
unfolding number_from fillings
at-number zero i free [] L F = refl
at-number zero i free (x ∷ p) L F = absurd (omega (arith, F.0))
at-number (suc m) i free [] L F = absurd (omega (arith, F.0))
at-number (suc m) i free (x ∷ p) L F =
    let long : length p ≡ m = omega (arith, F.0) in
    let h : Has x free = F.1.0 in
    let L' = left-without i m x free L h in
    let s = number_from (suc i) (without x free) p in
    let below : s < completions m (later (suc i) (without x free)) = number-below m (suc i) (without x free) p L' (long, F.1.2) in
    rw long
    (at_piece (piece m i free) (share m i free) x s free (length-piece m i free L) h (rw (share_other m i free x F.1.0 F.1.1) below)
    ∙ at-beginning (suc i) x s (fillings m (suc i) (without x free)) F.1.1 (rw (length-fillings m (suc i) (without x free) L') below)
    ∙ ap (λ (q : List ℕ). x ∷ q) (at-number m (suc i) (without x free) p L' (long, F.1.2)))

-- ---- the filling of a number

pub length-numbered : (m i k : ℕ) (free : List ℕ) → length (numbered_from m i free k) ≡ m
unfolding numbered_from
length-numbered zero i k free = refl
length-numbered (suc m) i k free = ap suc (length-numbered m (suc i) _ _)

-- the port in whose share a number falls is free and not the jack's own, and the number there is one for the jacks after it
pub chosen-fits : (m i k : ℕ) (free : List ℕ) → Left i (suc m) free → k < completions (suc m) (later i free)
    → let x = chosen (share m i free) free k in
    let s = within (share m i free) free k in
    Choice (share m i free) free k x s × (x ≢ suc i) × (s < completions m (later (suc i) (without x free)))
chosen-fits m i k free L h =
    let x = chosen (share m i free) free k in
    let C = choice (share m i free) 0 free k L.up (rw (all-shares m i free L) h) in
    let ne : x ≢ suc i = λ e. omega (arith, C.below, share-own m i free x e) in
    (C, ne, rw (share_other m i free x C.there ne) at C.below)

-- it fills the jacks, and has that number
pub numbered-fits : (m i k : ℕ) (free : List ℕ) → Left i m free → k < completions m (later i free)
    → Fits i free (numbered_from m i free k) × (number_from i free (numbered_from m i free k) ≡ k)
unfolding numbered_from number_from
numbered-fits zero i k free L h = (tt, let b : k < 1 = rw (completions-none i free L) at h in omega arith)
numbered-fits (suc m) i k free L h =
    let c = chosen-fits m i k free L h in
    let x = chosen (share m i free) free k in
    let s = within (share m i free) free k in
    let rest = numbered-fits m (suc i) s (without x free) (left-without i m x free L c.0.there) c.2 in
    ((c.0.there, c.1, rest.0), rw (length-numbered m (suc i) s (without x free)) (omega (arith, c.0.sum, rest.1)))

-- it stands in the list at that number
pub numbered-at : (m i k : ℕ) (free : List ℕ) → Left i m free → k < completions m (later i free)
    → numbered_from m i free k ≡ get_or (fillings m i free) k []
numbered-at m i k free L h =
    let c = numbered-fits m i k free L h in
    sym (at-number m i free (numbered_from m i free k) L (length-numbered m i k free, c.0))
    ∙ ap (λ (x : ℕ). get_or (fillings m i free) x []) c.1

-- ---- number and order

-- an earlier filling has a smaller number
number-rises : (m i : ℕ) (free p q : List ℕ) → Left i m free → Fills m i free p → Fills m i free q
    → Precedes p q → number_from i free p < number_from i free q
number-rises m i free [] q L F G h = absurd h
number-rises m i free (x ∷ p) [] L F G h = absurd h
number-rises zero i free (x ∷ p) (y ∷ q) L F G h = absurd (omega (arith, F.0))
number-rises (suc m) i free (x ∷ p) (y ∷ q) L F G (inl l) =
    let long : length p ≡ m = omega (arith, F.0) in
    let long' : length q ≡ m = omega (arith, G.0) in
    let s = number-below m (suc i) (without x free) p (left-without i m x free L F.1.0) (long, F.1.2) in
    omega (
      arith,
      number-cons m i x free p long,
      number-cons m i y free q long',
      s,
      share_other m i free x F.1.0 F.1.1,
      passed-less (share m i free) x y 0 free L.up F.1.0 G.1.0 l,
    )
number-rises (suc m) i free (x ∷ p) (y ∷ q) L F G (inr h) =
    let long : length p ≡ m = omega (arith, F.0) in
    let long' : length q ≡ m = omega (arith, G.0) in
    let Gx : Fits (suc i) (without x free) q = subst (λ (z : ℕ). Fits (suc i) (without z free) q) (sym h.0) G.1.2 in
    let rest = number-rises m (suc i) (without x free) p q (left-without i m x free L F.1.0) (long, F.1.2) (long', Gx) h.1 in
    rw (number-cons m i x free p long, number-cons m i y free q long', ← h.0) (omega arith)

-- a smaller number is that of an earlier filling
rises-number : (m i : ℕ) (free p q : List ℕ) → Left i m free → Fills m i free p → Fills m i free q
    → number_from i free p < number_from i free q → Precedes p q
rises-number m i free p q L F G l =
    either (precedes-total p q (F.0 ∙ sym G.0))
    (λ e. absurd (omega (arith, ap (number_from i free) e)))
    (λ c. either c (λ h. h) (λ h. absurd (omega (arith, number-rises m i free q p L G F h))))

-- the list has exactly the fillings, in dictionary order
pub fillings-sorted : (m i : ℕ) (free : List ℕ) → Left i m free → Sorted (Fills m i free) (fillings m i free)
fillings-sorted m i free L =
    let len : length (fillings m i free) ≡ completions m (later i free) = length-fillings m i free L in
    record {
      rising = λ r s l h.
          let hs : s < completions m (later i free) = omega arith in
          let hr : r < completions m (later i free) = omega arith in
          let a = numbered-fits m i r free L hr in
          let b = numbered-fits m i s free L hs in
          rw (← numbered-at m i r free L hr, ← numbered-at m i s free L hs)
          (rises-number m i free (numbered_from m i free r) (numbered_from m i free s) L (length-numbered m i r free, a.0) (length-numbered m i s free, b.0)
          (omega (arith, a.1, b.1)));
      only = λ r h.
          let hr : r < completions m (later i free) = omega arith in
          rw (← numbered-at m i r free L hr) (length-numbered m i r free, (numbered-fits m i r free L hr).0);
      every = λ p F. (number_from i free p, rw len (number-below m i free p L F), at-number m i free p L F);
    }
