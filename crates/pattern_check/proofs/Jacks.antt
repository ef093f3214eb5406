-- Both jacks of a repeated port. The first fault stands at a jack, and the jacks before it have none (`fault-at`): so the earlier jack that holds the port is one
-- alone (`repeated-equal`), and the check names both (`check-second`).
-- Assumes nothing.
use mathlib.Core.Path.{◌≡◌, refl, sym, ap, ◌∙◌}
use mathlib.Core.Logic.{◌≢◌}
use mathlib.Core.Bool.{Bool, true, false, cond, true≢false}
use mathlib.Core.List.{List}
use Prim.Native.Nat.{ℕ, zero, suc, ◌+◌, ◌≤◌, ◌<◌}
use native.Mathlib.Omega.{arith}
use lib.Dec.{eqb, leb}
use lib.ListN.{length}
use borrow.Author.Tests.{eqb-true, eqb-false}
use Rattle.listing.specs.Numbers.{before}
use Rattle.listing.specs.Pattern.{entry}
use Rattle.listing.proofs.Numbers.{either, test, below?, same?, suc-before}
use Rattle.words.specs.Told.{Spot, nowhere, at_jack, at_jacks, earlier_number, refused, EachRefusal}
use Rattle.words.proofs.Told.{each-accepted, each-refused}
use Rattle.pattern_check.specs.Faults.{Fault, sound, outside, repeated, own_jack, seek, earlier, fault_at, first_of, fault_from, fault_of, fault_told}
use Rattle.pattern_check.specs.Calls.{in_size, sized, check_as}
use Rattle.pattern_check.specs.Jacks.{Equal, Second}
use Rattle.pattern_check.proofs.Sound.{Clean, sound-clean, fresh-apart}

-- ---- the earlier jack

-- the jack that is found is one of those looked at, holds the port, and is the first that does
record First (p : List ℕ) (v i k found : ℕ) : Type 0 where
  from : i ≤ found
  to : found < i + k
  holds : entry p found ≡ v
  none : (a : ℕ) → i ≤ a → a < found → entry p a ≢ v

seek-first : (p : List ℕ) (v i k found : ℕ) → 1 ≤ found → seek p v i k ≡ found → First p v i k found
unfolding seek
seek-first p v i zero found low e = absurd (omega arith)
seek-first p v i (suc k) found low e =
    either (test (eqb (entry p i) v))
    (λ t. let here : i ≡ found = rw t at e in record { from = omega arith; to = omega arith; holds = rw (← here) (eqb-true (entry p i) v t); none = λ a h l. absurd (omega arith) })
    (λ t.
    let later = seek-first p v (suc i) k found low (rw t at e) in
    record {
      from = omega (arith, later.from);
      to = omega (arith, later.to);
      holds = later.holds;
      none = λ a h l. either (same? a i) (λ s. rw s (eqb-false (entry p i) v t)) (λ d. later.none a (omega arith) l);
    })

-- ---- the jack at fault

-- the tests at a jack, by their results: a repeated port is found at that jack, with the earlier jack that the search found
by_tests : (pattern zero? in? fresh? own? : Bool) (a e j i : ℕ) → eqb e 0 ≡ fresh?
    → cond zero? (outside a) (cond in? (cond fresh? (cond pattern (cond own? (own_jack a) sound) sound) (repeated a e)) (outside a)) ≡ repeated j i
    → (a ≡ j) × (e ≡ i) × (e ≢ 0)
by_tests pattern true in? fresh? own? a e j i f h = absurd (true≢false (cc))
by_tests pattern false false fresh? own? a e j i f h = absurd (true≢false (cc))
by_tests pattern false true false own? a e j i f h = (cc, cc, eqb-false e 0 f)
by_tests true false true true true a e j i f h = absurd (true≢false (cc))
by_tests true false true true false a e j i f h = absurd (true≢false (cc))
by_tests false false true true own? a e j i f h = absurd (true≢false (cc))

at-repeated-parts : (pattern : Bool) (n : ℕ) (p : List ℕ) (a j i : ℕ) → fault_at pattern n p a ≡ repeated j i → (a ≡ j) × (earlier p a ≡ i) × (earlier p a ≢ 0)
unfolding fault_at
at-repeated-parts pattern n p a j i h =
    by_tests pattern (eqb (entry p a) 0) (leb (entry p a) n) (eqb (earlier p a) 0) (eqb (entry p a) a) a (earlier p a) j i refl h

-- the first fault at k jacks, from jack j on, stands at one of them, and those before it have none
record At (pattern : Bool) (n : ℕ) (p : List ℕ) (j k : ℕ) (f : Fault) : Type 0 where
  jack : ℕ
  from : j ≤ jack
  to : jack < j + k
  here : fault_at pattern n p jack ≡ f
  clean : (i : ℕ) → j ≤ i → i < jack → Clean pattern n p i

-- a jack with no fault, or the first of them
first-at : (pattern : Bool) (n : ℕ) (p : List ℕ) (j k : ℕ) (f g : Fault) → fault_at pattern n p j ≡ g → first_of g (fault_from pattern n p (suc j) k) ≡ f
    → (fault_from pattern n p (suc j) k ≡ f → At pattern n p (suc j) k f) → At pattern n p j (suc k) f
first-at pattern n p j k f g h e on = by g h e
  where
    here : fault_at pattern n p j ≡ f → At pattern n p j (suc k) f
    here e = record { jack = j; from = omega arith; to = omega arith; here = e; clean = λ i l m. absurd (omega arith) }

    by : (g : Fault) → fault_at pattern n p j ≡ g → first_of g (fault_from pattern n p (suc j) k) ≡ f → At pattern n p j (suc k) f
    by sound h e =
        let later = on e in
        record {
          jack = later.jack;
          from = omega (arith, later.from);
          to = omega (arith, later.to);
          here = later.here;
          clean = λ i l m. either (same? i j) (λ s. rw s (sound-clean pattern n p j h)) (λ d. later.clean i (omega arith) m);
        }
    by (outside a) h e = here (h ∙ e)
    by (repeated a b) h e = here (h ∙ e)
    by (own_jack a) h e = here (h ∙ e)

fault-at : (pattern : Bool) (n : ℕ) (p : List ℕ) (j k : ℕ) (f : Fault) → f ≢ sound → fault_from pattern n p j k ≡ f → At pattern n p j k f
unfolding fault_from
fault-at pattern n p j zero f d e = absurd (d (sym e))
fault-at pattern n p j (suc k) f d e = first-at pattern n p j k f (fault_at pattern n p j) refl e (fault-at pattern n p (suc j) k f d)

-- a jack at fault for a repeated port, with no fault before it: one earlier jack holds that port, and no other
at-equal : (pattern : Bool) (p : List ℕ) (j i : ℕ) → At pattern (length p) p 1 (length p) (repeated j i) → Equal p j i
at-equal pattern p j i f =
    let n = length p in
    let parts = at-repeated-parts pattern n p f.jack j i f.here in
    let here : f.jack ≡ j = parts.0 in
    let found : earlier p j ≡ i = ap (earlier p) (sym here) ∙ parts.1 in
    let some : i ≢ 0 = λ z. parts.2 (parts.1 ∙ z) in
    let low : 1 ≤ i = omega (arith, some) in
    let first = seek-first p (entry p j) 1 (before j) i low found in
    let jack : 1 ≤ j = omega (arith, f.from) in
    let order : i < j = omega (arith, first.to, suc-before j jack) in
    record {
      least = low;
      before = order;
      most = omega (arith, f.to);
      same = first.holds;
      only = λ a h l s.
          either (same? a i)
          (λ e. e)
          (λ d.
          either (below? a i)
          (λ b. absurd (first.none a h b s))
          (λ b. absurd (fresh-apart pattern n p i a low (omega arith) (f.clean a h (omega arith)) (first.holds ∙ sym s))));
    }

-- of two equal entries before the fault there is only one: an earlier fault would have decided
pub repeated-equal : (pattern : Bool) (p : List ℕ) (j i : ℕ) → fault_of pattern p ≡ repeated j i → Equal p j i
repeated-equal pattern p j i e = at-equal pattern p j i (fault-at pattern (length p) p 1 (length p) (repeated j i) (λ s. true≢false (cc)) e)

-- ---- what is told

-- the refusals but 4 have 0
pub none-second : (p : List ℕ) (k : ℕ) (s : Spot) → k ≢ 4 → earlier_number s ≡ 0 → Second p k s
none-second p k s d e = record { both = λ h. absurd (d h); other = λ h. e }

-- by the number of ports, and the fault that is found
told-second : (size pattern : Bool) (p : List ℕ) (f : Fault) → fault_of pattern p ≡ f
    → EachRefusal (Second p) (cond size (fault_told f (tt {0})) (refused 1 nowhere))
told-second false pattern p f e = each-refused (Second p) 1 nowhere (none-second p 1 nowhere (λ h. omega arith) refl)
told-second true pattern p sound e = each-accepted (Second p) tt
told-second true pattern p (outside j) e = each-refused (Second p) 3 (at_jack j) (none-second p 3 (at_jack j) (λ h. omega arith) refl)
told-second true pattern p (repeated j i) e = each-refused (Second p) 4 (at_jacks j i) (record { both = λ h. repeated-equal pattern p j i e; other = λ d. absurd (d refl) })
told-second true pattern p (own_jack j) e = each-refused (Second p) 5 (at_jack j) (none-second p 5 (at_jack j) (λ h. omega arith) refl)

-- a refusal of the check has its second number
pub check-second : (pattern : Bool) (most : ℕ) (p : List ℕ) → EachRefusal (Second p) (check_as pattern most p)
unfolding check_as sized
check-second pattern most p = told-second (in_size most (length p)) pattern p (fault_of pattern p) refl
