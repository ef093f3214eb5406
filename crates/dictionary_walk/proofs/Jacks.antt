-- The walk jack by jack: where it begins, what is free at the next jack, and where it stands when that jack has its port; the number so far, and the pattern so
-- far. Of n ports the first i jacks have theirs, and m + 1 jacks are left.
-- Assumes nothing.
use mathlib.Core.Path.{◌≡◌, refl, sym, ap, ◌∙◌}
use mathlib.Core.Bool.{Bool, true, false, not, cond, true≢false}
use mathlib.Core.List.{List}
use Prim.Native.Nat.{ℕ, zero, suc, ◌+◌, ◌-◌, ◌≤◌, ◌<◌}
use native.Mathlib.Numerals.{add-one}
use native.Mathlib.Omega.{arith}
use lib.ListN.{get_or, set, replicate, length-set}
use borrow.Author.Tests.{lt-ltb, le-ltb}
use lib.Dec.{ltb}
use Rattle.listing.specs.Numbers.{before}
use Rattle.listing.specs.Limits.{most_ports}
use Rattle.listing.proofs.Numbers.{either, test, less_one}
use Rattle.listing_dictionary.specs.Free.{without, later}
use Rattle.listing_dictionary.specs.Completions.{completions}
use Rattle.listing_dictionary.specs.Number.{worth, share}
use Rattle.listing_dictionary.proofs.Lists.{Has}
use Rattle.listing_dictionary.proofs.Free.{left-without, later-without, later-bound, own-port?}
use Rattle.listing_dictionary.proofs.Patterns.{left-ports, later-ports}
use Rattle.dictionary_walk.specs.Rows.{Row}
use Rattle.dictionary_walk.specs.Free.{frees}
use Rattle.dictionary_walk.specs.Stand.{Stands}
use Rattle.dictionary_walk.proofs.Flags.{frees-first, has-frees, frees-has, frees-set}

-- one less where there is one is the number before
pub before-if : (k : ℕ) → cond (ltb 0 k) (before k) k ≡ before k
before-if zero = refl
before-if (suc k) = rw (lt-ltb 0 (suc k) (omega arith))

-- it is no greater
pub before-most : (k m : ℕ) → k ≤ m → before k ≤ m
before-most zero m h = h
before-most (suc k) m h = omega arith

-- no jack has its port: all ports are free, and each has its own jack to come
stands-first : (n : ℕ) (row : List ℕ) → n ≤ most_ports → Row (before n) row → Stands n 0 n (replicate most_ports false) row
stands-first n row h R =
    record {
      reach = omega arith;
      most = h;
      long = refl;
      left = rw (frees-first most_ports 0 n (omega arith)) (left-ports n);
      ways = R;
    }

own_first : (n : ℕ) → n ≤ most_ports → n ≡ later 0 (frees (replicate most_ports false) 0 n)
own_first n h = sym (ap (later 0) (frees-first most_ports 0 n (omega arith)) ∙ later-ports n)

module _ (n i m : ℕ) (t : List Bool) (row : List ℕ) (S : Stands n i (suc m) t row) where
  abbrev free : List ℕ
  free = frees t 0 n

  -- with the next jack its own port goes out of the count, if it is free
  own-here : (own : ℕ) → own ≡ later i free
      → (cond (not (get_or t i false)) (before own) own ≡ later (suc i) free) × (not (get_or t i false) ≡ true → 1 ≤ own)
  own-here own e =
      either (test (get_or t i false))
      (λ gone.
      rw gone
      (either (own-port? i 0 free S.left.up)
      (λ c. absurd (true≢false (sym gone ∙ (has-frees t 0 n (suc i) c.0).2)))
      (λ c. (e ∙ c.1, λ f. absurd (true≢false (sym f)))))
      )
      (λ here.
      rw here
      (either (own-port? i 0 free S.left.up)
      (λ c. (ap before (e ∙ c.1), λ f. omega (arith, c.1)))
      (λ c. absurd (c.0 (frees-has t 0 n i (omega arith) (omega (arith, S.reach)) here)))))

  -- no more jacks than are left have their own port free
  own-most : (own : ℕ) → own ≡ later (suc i) free → own ≤ m
  own-most own e = omega (arith, later-bound (suc i) (i + suc m) 0 free S.left.up S.left.top)

  -- the row has what the free ports come to
  row-shares : (own early late : ℕ) → own ≡ later (suc i) free → early ≡ get_or row own 0 → late ≡ get_or row (before own) 0
      → worth early late (suc i) ≡ share m i free
  row-shares own early late e a b =
      let top : own ≤ m = own-most own e in
      rw (a ∙ S.ways.ways own top ∙ ap (completions m) e, b ∙ S.ways.ways (before own) (before-most own m top) ∙ ap (λ (k : ℕ). completions m (before k)) e)

  -- the next jack has a free port: it is taken
  stands_on : (x : ℕ) (row' : List ℕ) → Has (suc x) free → Row (before m) row' → Stands n (suc i) m (set t x true) row'
  stands_on x row' h R =
      record {
        reach = omega (arith, S.reach);
        most = S.most;
        long = length-set t x true ∙ S.long;
        left = rw (frees-set t x 0 n (omega (arith, (has-frees t 0 n (suc x) h).1, S.most, S.long))) (left-without i m (suc x) free S.left h);
        ways = R;
      }

  -- and no longer counts as one whose jack is to come
  own_on : (own x : ℕ) → own ≡ later (suc i) free → Has (suc x) free
      → (cond (ltb (suc i) (suc x)) (before own) own ≡ later (suc i) (frees (set t x true) 0 n)) × (ltb (suc i) (suc x) ≡ true → 1 ≤ own)
  own_on own x e h =
      let gone = frees-set t x 0 n (omega (arith, (has-frees t 0 n (suc x) h).1, S.most, S.long)) in
      either (later-without (suc i) (suc x) free h)
      (λ c. rw (lt-ltb (suc i) (suc x) c.0, gone) (ap before (e ∙ c.1), λ f. omega (arith, c.1)))
      (λ c. rw (le-ltb (suc i) (suc x) c.0, gone) (e ∙ c.1, λ f. absurd (true≢false (sym f))))

-- ---- the same as the code has it: `at` jacks have their ports, of n

module _ (n at : ℕ) (t : List Bool) (row : List ℕ) (low : at < n) (S : Stands n at (n - at) t row) where
  stands-next : Stands n at (suc (n - suc at)) t row
  stands-next = let e : n - at ≡ suc (n - suc at) = omega arith in rw e at S

  pub row_next : Row (n - at - 1) row
  row_next = let e : n - at - 1 ≡ n - suc at = omega arith in rw e stands-next.ways

  -- the next jack gets a port
  module _ (own port : ℕ) (h : Has port (frees t 0 n)) (e : own ≡ later (suc at) (frees t 0 n)) where
    -- the port is one of 1..n
    pub port-among : (1 ≤ port) × (port ≤ n)
    port-among = let c = has-frees t 0 n port h in (omega (arith, c.0), omega (arith, c.1))

    one_less : suc (port - 1) ≡ port
    one_less = omega (arith, port-among.0)

    there : Has (suc (port - 1)) (frees t 0 n)
    there = rw one_less h

    pub leaves_free : frees (set t (port - 1) true) 0 n ≡ without port (frees t 0 n)
    leaves_free = frees-set t (port - 1) 0 n (omega (arith, port-among, S.most, S.long)) ∙ ap (λ (x : ℕ). without x (frees t 0 n)) one_less

    pub leaves-stands : (row' : List ℕ) → Row (before (n - at - 1)) row' → Stands n (suc at) (n - suc at) (set t (port - 1) true) row'
    leaves-stands row' R =
        let f : n - at - 1 ≡ n - suc at = omega arith in
        stands_on n at (n - suc at) t row stands-next (port - 1) row' there (rw f at R)

    pub leaves-own : (cond (ltb (at + 1) port) (before own) own ≡ later (suc at) (frees (set t (port - 1) true) 0 n)) × (ltb (at + 1) port ≡ true → 1 ≤ own)
    leaves-own = rw add-one (rw one_less at (own_on n at (n - suc at) t row stands-next own (port - 1) e there))

-- ---- at the next jack

-- the arrays are as `at` jacks leave them, and `own` of the jacks that are left have their own port free
pub record Walks (n at : ℕ) (t : List Bool) (row : List ℕ) (own : ℕ) : Type 0 where
  pub stands : Stands n at (n - at) t row
  pub owned : own ≡ later at (frees t 0 n)

-- what is seen at the next jack: how many of the jacks after it have their own port free, and what the free ports come to
pub record Looked (n at : ℕ) (t : List Bool) (here early late : ℕ) : Type 0 where
  pub owned : here ≡ later (suc at) (frees t 0 n)
  pub shares : worth early late (at + 1) ≡ share (n - suc at) at (frees t 0 n)

pub walks-first : (n : ℕ) (row : List ℕ) → n ≤ most_ports → Row (n - 1) row → Walks n 0 (replicate most_ports false) row n
walks-first n row h R =
    let z : n - 0 ≡ n = omega arith in
    record { stands = rw z (stands-first n row h (rw less_one at R)); owned = own_first n h }

module _ (n at : ℕ) (t : List Bool) (row : List ℕ) (own : ℕ) (low : at < n) (W : Walks n at t row own) where
  next : Stands n at (suc (n - suc at)) t row
  next = stands-next n at t row low W.stands

  pub own-least : not (get_or t at false) ≡ true → 1 ≤ own
  own-least = (own-here n at (n - suc at) t row next own W.owned).1

  module _ (here : ℕ) (e : here ≡ cond (not (get_or t at false)) (before own) own) where
    here-own : here ≡ later (suc at) (frees t 0 n)
    here-own = e ∙ (own-here n at (n - suc at) t row next own W.owned).0

    pub here-most : here < most_ports
    here-most = omega (arith, own-most n at (n - suc at) t row next here here-own, W.stands.most)

    pub looked : (early late : ℕ) → (early ≡ get_or row here 0) × (late ≡ get_or row (before here) 0) → Looked n at t here early late
    looked early late a =
        record { owned = here-own; shares = rw add-one (row-shares n at (n - suc at) t row next here early late here-own a.0 a.1) }
