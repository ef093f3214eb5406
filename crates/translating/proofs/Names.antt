-- What the names of a pattern are: a rank is printed for itself (`rank-said`), a dictionary number too (`number-said`), and so is a pattern (`pattern-said`). By
-- whichever of the three a pattern is found, they are the names of the same pattern (`by-its-rank`, `by-its-number`), and nothing but a pattern is named.
-- Assumes nothing.
use mathlib.Core.Path.{◌≡◌, refl, sym, ap, subst, ◌∙◌}
use mathlib.Core.Bool.{Bool, true, false, cond}
use mathlib.Core.Logic.{◌≢◌}
use mathlib.Core.List.{List}
use Prim.Native.Nat.{ℕ, ◌≤◌, ◌<◌}
use native.Mathlib.Omega.{arith}
use lib.Dec.{ltb, eqb}
use lib.ListN.{length}
use borrow.Author.Tests.{lt-ltb, ltb-true, eq-eqb, ne_eqb, eqb-true}
use Rattle.listing.specs.Count.{count}
use Rattle.listing.specs.Pattern.{Derangement}
use Rattle.listing.specs.Listing.{at}
use Rattle.listing.specs.Rank as list
use Rattle.listing.specs.Limits.{most_ports}
use Rattle.listing.proofs.Ranks.{rank-at, at-rank, rank_below, at-derangement}
use Rattle.listing_dictionary.specs.Dictionary.{in_dictionary}
use Rattle.listing_dictionary.specs.Number as dictionary
use Rattle.listing_dictionary.proofs.Dictionary.{number-dictionary, dictionary-number, number-count, dictionary-derangement}
use Rattle.words.specs.Told.{Told, accepted, refused, nowhere, then}
use Rattle.words.proofs.Told.{not-both, accepted-once, then-accepted}
use Rattle.pattern_check.specs.Calls.{check_of}
use Rattle.pattern_check.proofs.Accepted.{accepted-pattern, pattern-accepted}
use Rattle.patterns.specs.Calls.{ranked}
use Rattle.translating.specs.Names.{Named, names, by_rank, by_number, by_pattern}

-- ---- below the count

-- what has a rank or a number below the count
ranked-below : {A : Type 0} (n r : ℕ) (told : Told A) → r < count n → ranked n r told ≡ told
unfolding ranked
ranked-below n r told h = rw (lt-ltb r (count n) h)

-- what was accepted was below it
below-accepted : {A : Type 0} (n r : ℕ) (told : Told A) (a : A) → ranked n r told ≡ accepted a → (r < count n) × (told ≡ accepted a)
unfolding ranked
below-accepted n r told a e = by (ltb r (count n)) refl e
  where
    by : (b : Bool) → ltb r (count n) ≡ b → cond b told (refused 6 nowhere) ≡ accepted a → (r < count n) × (told ≡ accepted a)
    by true q e = (ltb-true r (count n) q, e)
    by false q e = absurd (not-both e)

-- ---- each name for itself

-- entries of which there are more or fewer than ports are no pattern of so many: 8
pub wrong-count : (n : ℕ) (p : List ℕ) → length p ≢ n → by_pattern n p ≡ refused 8 nowhere
unfolding by_pattern
wrong-count n p h = rw (ne_eqb (length p) n h)

-- the names of the pattern with a rank begin with that rank
pub rank-said : (n r : ℕ) → r < count n
    → by_rank n r ≡ accepted (record { rank = r; number = dictionary.number n (at n r); pattern = at n r })
unfolding by_rank
rank-said n r h =
    ranked-below n r (accepted (names n (at n r))) h
    ∙ ap (λ q. accepted (record { rank = q; number = dictionary.number n (at n r); pattern = at n r })) (rank-at n r h)

-- those of the pattern with a dictionary number have that number
pub number-said : (n k : ℕ) → k < count n
    → by_number n k ≡ accepted (record { rank = list.rank n (in_dictionary n k); number = k; pattern = in_dictionary n k })
unfolding by_number
number-said n k h =
    ranked-below n k (accepted (names n (in_dictionary n k))) h
    ∙ ap (λ q. accepted (record { rank = list.rank n (in_dictionary n k); number = q; pattern = in_dictionary n k })) (number-dictionary n k h)

-- and those of a pattern are its own
pub pattern-said : (n : ℕ) (p : List ℕ) → Derangement n p → 2 ≤ n → n ≤ most_ports → by_pattern n p ≡ accepted (names n p)
unfolding by_pattern
pattern-said n p D low high =
    let long : length p ≡ n = D.permutation.long in
    let ok : accepted tt ≡ check_of most_ports p = pattern-accepted most_ports p (record { low = omega arith; high = omega arith; is = subst (λ m. Derangement m p) (sym long) D }) in
    rw (eq-eqb (length p) n long, ← ok)

-- ---- the three names are names of one pattern

module _ (n : ℕ) (p : List ℕ) (D : Derangement n p) where
  pub by-its-rank : by_rank n (list.rank n p) ≡ accepted (names n p)
  unfolding by_rank
  by-its-rank = ranked-below n (list.rank n p) _ (rank_below n p D) ∙ ap (λ q. accepted (names n q)) (at-rank n p D)

  pub by-its-number : by_number n (dictionary.number n p) ≡ accepted (names n p)
  unfolding by_number
  by-its-number = ranked-below n (dictionary.number n p) _ (number-count n p D) ∙ ap (λ q. accepted (names n q)) (dictionary-number n p D)

-- ---- nothing else is named

-- x has the names of a pattern of n ports
pub record Names (n : ℕ) (x : Named) : Type 0 where
  pub pattern : Derangement n x.pattern
  pub is : names n x.pattern ≡ x

names_of : (n : ℕ) (p : List ℕ) (x : Named) → Derangement n p → names n p ≡ x → Names n x
names_of n p x D e = subst (Names n) e (record { pattern = D; is = refl })

pub rank-names : (n r : ℕ) (x : Named) → by_rank n r ≡ accepted x → (r < count n) × Names n x
unfolding by_rank
rank-names n r x e = let c = below-accepted n r _ x e in (c.0, names_of n (at n r) x (at-derangement n r c.0) (accepted-once c.1))

pub number-names : (n k : ℕ) (x : Named) → by_number n k ≡ accepted x → (k < count n) × Names n x
unfolding by_number
number-names n k x e = let c = below-accepted n k _ x e in (c.0, names_of n (in_dictionary n k) x (dictionary-derangement n k c.0) (accepted-once c.1))

pub pattern-names : (n : ℕ) (p : List ℕ) (x : Named) → by_pattern n p ≡ accepted x → (Derangement n p) × Names n x
unfolding by_pattern
pattern-names n p x e = by (eqb (length p) n) refl e
  where
    by : (b : Bool) → eqb (length p) n ≡ b → cond b (then (check_of most_ports p) (λ ok. accepted (names n p))) (refused 8 nowhere) ≡ accepted x
        → (Derangement n p) × Names n x
    by true q e =
        let c = then-accepted (check_of most_ports p) (λ ok. accepted (names n p)) x e in
        let D : Derangement n p = subst (λ m. Derangement m p) (eqb-true (length p) n q) (accepted-pattern most_ports p (sym c.taken)).is in
        (D, names_of n p x D (accepted-once c.on))
    by false q e = absurd (not-both e)
