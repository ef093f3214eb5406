-- The number so far and the pattern so far, jack by jack: `at` of n jacks have their ports, and the ports of `free` are left. What the next jack adds, and what
-- there is when all have theirs.
-- Assumes nothing.
use mathlib.Core.Path.{◌≡◌, sym, ap, ◌∙◌, subst}
use mathlib.Core.Bool.{Bool}
use mathlib.Core.List.{List, [], ◌∷◌, ◌++◌, append-nil}
use Prim.Native.Nat.{ℕ, suc, ◌+◌, ◌-◌, ◌≤◌, ◌<◌}
use native.Mathlib.Omega.{arith}
use lib.ListN.{length, get_or, set, take, drop, length-drop}
use lib.Seq.{drop-cons, drop-length, take-suc-set, take_all, append_snoc}
use Rattle.listing.specs.Count.{count}
use Rattle.listing.specs.Pattern.{Derangement}
use Rattle.listing.specs.Limits.{largest64}
use Rattle.listing.proofs.Limits.{counts-fit}
use Rattle.listing_dictionary.specs.Free.{ports, without, later}
use Rattle.listing_dictionary.specs.Completions.{completions}
use Rattle.listing_dictionary.specs.Dictionary.{in_dictionary}
use Rattle.listing_dictionary.specs.Number.{worth, share, passed, number_from, number, chosen, within, numbered_from, numbered}
use Rattle.listing_dictionary.proofs.Lists.{Has}
use Rattle.listing_dictionary.proofs.Free.{Left}
use Rattle.listing_dictionary.proofs.Walk.{total}
use Rattle.listing_dictionary.proofs.Fillings.{Fits, number-cons, all-shares, chosen-fits}
use Rattle.listing_dictionary.proofs.Patterns.{derangement-fills}
use Rattle.listing_dictionary.proofs.Dictionary.{all-completions, number-count, numbered-dictionary}
use Rattle.dictionary_walk.specs.Free.{frees}
use Rattle.dictionary_walk.proofs.Flags.{passed-before}
use Rattle.dictionary_walk.proofs.Jacks.{Walks, Looked}

-- ---- the number

-- the jacks that are left fit the free ports, and the sum so far with their number is that of the pattern
pub record Counted (n : ℕ) (p : List ℕ) (at : ℕ) (free : List ℕ) (sum : ℕ) : Type 0 where
  pub fits : Fits at free (drop at p)
  pub so : sum + number_from at free (drop at p) ≡ number n p

pub counted-first : (n : ℕ) (p : List ℕ) → Derangement n p → Counted n p 0 (ports 0 n) 0
unfolding number
counted-first n p D = record { fits = (derangement-fills n p D).1; so = omega arith }

module _ (n : ℕ) (p : List ℕ) (at : ℕ) (free : List ℕ) (sum : ℕ) (long : length p ≡ n) (C : Counted n p at free sum) where
  abbrev next : List ℕ
  next = get_or p at 0 ∷ drop (suc at) p

  -- the next jack has a free port
  fits_next : at < n → Fits at free next
  fits_next low = subst (Fits at free) (drop-cons p at 0 (omega arith)) C.fits

  pub counted-port : at < n → Has (get_or p at 0) free
  counted-port low = (fits_next low).0

  -- what it passes over is added, and the sum stays below the number
  counted-turn : (x : ℕ) → at < n → x ≡ passed (share (n - suc at) at free) free (get_or p at 0)
      → Counted n p (suc at) (without (get_or p at 0) free) (sum + x) × (sum + x ≤ number n p)
  counted-turn x low e =
      let rest = drop (suc at) p in
      let many : length rest ≡ n - suc at = omega (arith, length-drop (suc at) p) in
      let cons = ap (number_from at free) (drop-cons p at 0 (omega arith)) ∙ number-cons (n - suc at) at (get_or p at 0) free rest many in
      (record { fits = (fits_next low).2; so = omega (arith, C.so, cons) }, omega (arith, C.so, cons))

  -- all jacks have their ports
  pub counted-all : n ≤ at → at ≤ n → sum ≡ number n p
  unfolding number_from
  counted-all a b =
      let e : at ≡ length p = omega arith in
      let none : drop at p ≡ [] = ap (λ (k : ℕ). drop k p) e ∙ drop-length p in
      omega (arith, C.so, ap (number_from at free) none)

-- the same by the arrays, with what is seen at the next jack
module _ (n : ℕ) (p : List ℕ) (at sum : ℕ) (t : List Bool) (row : List ℕ) (own here early late : ℕ) (low : at < n) (long : length p ≡ n)
    (W : Walks n at t row own) (C : Counted n p at (frees t 0 n) sum) (K : Looked n at t here early late) where
  -- the ports below that of the next jack come to what it passes over
  passes : total (worth early late (at + 1)) (frees t 0 (get_or p at 0 - 1)) ≡ passed (share (n - suc at) at (frees t 0 n)) (frees t 0 n) (get_or p at 0)
  passes =
      sym (passed-before (worth early late (at + 1)) t n (get_or p at 0) (counted-port n p at (frees t 0 n) sum long C low))
      ∙ ap (λ (f : ℕ → ℕ). passed f (frees t 0 n) (get_or p at 0)) K.shares

  -- every partial sum fits 64 bits: it is at most the number, which is below the count
  pub sum_fits : (x : ℕ) → Derangement n p → x ≡ total (worth early late (at + 1)) (frees t 0 (get_or p at 0 - 1)) → sum + x ≤ largest64
  sum_fits x D f =
      omega (arith, (counted-turn n p at (frees t 0 n) sum long C x low (f ∙ passes)).1, number-count n p D, counts-fit n W.stands.most)

  pub counted-on : (x : ℕ) (free : List ℕ) → x ≡ total (worth early late (at + 1)) (frees t 0 (get_or p at 0 - 1)) → free ≡ without (get_or p at 0) (frees t 0 n)
      → Counted n p (suc at) free (sum + x)
  counted-on x free f g = rw g (counted-turn n p at (frees t 0 n) sum long C x low (f ∙ passes)).0

-- ---- the pattern

-- the ports so far, with those that what is left of the number makes, are the pattern of the number
pub record Made (n k at : ℕ) (free out : List ℕ) (rest : ℕ) : Type 0 where
  pub below : rest < completions (n - at) (later at free)
  pub so : take at out ++ numbered_from (n - at) at free rest ≡ numbered n k

pub made-first : (n k : ℕ) (out : List ℕ) → k < count n → Made n k 0 (ports 0 n) out k
unfolding numbered
made-first n k out h =
    let z : n - 0 ≡ n = omega arith in
    record { below = rw (z, all-completions n) h; so = rw z }

module _ (n k at : ℕ) (out : List ℕ) (rest : ℕ) (t : List Bool) (row : List ℕ) (own here early late : ℕ) (low : at < n)
    (W : Walks n at t row own) (M : Made n k at (frees t 0 n) out rest) (K : Looked n at t here early late) where
  abbrev m : ℕ
  m = n - suc at

  abbrev free : List ℕ
  free = frees t 0 n

  more : n - at ≡ suc m
  more = omega arith

  left-next : Left at (suc m) free
  left-next = rw more at W.stands.left

  below_next : rest < completions (suc m) (later at free)
  below_next = rw more at M.below

  -- what is left of the number falls in the share of one of the free ports
  pub rest_below : rest < total (worth early late (at + 1)) free
  rest_below = rw (K.shares, all-shares m at free left-next) below_next

  -- the next jack gets that port
  module _ (x r : ℕ) (e : (x ≡ chosen (worth early late (at + 1)) free rest) × (r ≡ within (worth early late (at + 1)) free rest)) where
    port : x ≡ chosen (share m at free) free rest
    port = rw K.shares at e.0

    inside : r ≡ within (share m at free) free rest
    inside = rw K.shares at e.1

    pub made-port : Has x free
    made-port = rw port (chosen-fits m at rest free left-next below_next).0.there

    pub made-on : (free' : List ℕ) → length out ≡ n → free' ≡ without x free → Made n k (suc at) free' (set out at x) r
    unfolding numbered_from
    made-on free' long g =
        rw (g, port, inside)
        (record {
          below = (chosen-fits m at rest free left-next below_next).2;
          so =
              ap (λ (l : List ℕ). l ++ numbered_from m (suc at) (without (chosen (share m at free) free rest) free) (within (share m at free) free rest))
              (take-suc-set out at (chosen (share m at free) free rest) (omega arith))
              ∙ append_snoc (take at out) _ _
              ∙ (rw more at M.so);
        })

-- all jacks have their ports
pub made_all : (n k at : ℕ) (free out : List ℕ) (rest : ℕ) → k < count n → length out ≡ n → n ≤ at → at ≤ n → Made n k at free out rest → out ≡ in_dictionary n k
unfolding numbered_from
made_all n k at free out rest h long a b M =
    let z : n - at ≡ 0 = omega arith in
    sym (take_all at out (omega arith)) ∙ sym (append-nil (take at out)) ∙ (rw z at M.so) ∙ numbered-dictionary n k h
