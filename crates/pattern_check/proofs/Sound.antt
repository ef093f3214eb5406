-- The check accepts exactly the patterns, and as a panel exactly the permutations.
-- Assumes nothing.
use mathlib.Core.Path.{◌≡◌, refl, sym, ◌∙◌}
use mathlib.Core.Logic.{◌≢◌}
use mathlib.Core.Bool.{Bool, true, false, true≢false}
use mathlib.Core.List.{List}
use Prim.Native.Nat.{ℕ, zero, suc, ◌+◌, ◌≤◌, ◌<◌}
use native.Mathlib.Numerals.{add-one}
use native.Mathlib.Omega.{arith}
use lib.Dec.{eqb}
use lib.ListN.{length}
use borrow.Author.Tests.{eqb-false, ne_eqb}
use Rattle.listing.specs.Numbers.{Among, before}
use Rattle.listing.specs.Pattern.{entry, Permutation, Derangement}
use Rattle.listing.proofs.Numbers.{either, test, below?, same?, suc-before}
use Rattle.pattern_check.specs.Faults.{Fault, sound, outside, repeated, own_jack, seek, earlier, fault_at, first_of, fault_from, fault_of}
use Rattle.pattern_check.proofs.Faults.{at_zero, at_above, at-repeated, at_own, at_other, at-panel}

-- ---- one jack

-- no earlier jack was found: none of them holds the port
seek-misses : (p : List ℕ) (v i k : ℕ) → 1 ≤ i → seek p v i k ≡ 0 → (a : ℕ) → i ≤ a → a < i + k → entry p a ≢ v
unfolding seek
seek-misses p v i zero low e a h l = absurd (omega arith)
seek-misses p v i (suc k) low e a h l =
    either (test (eqb (entry p i) v))
    (λ t. absurd (let z : i ≡ 0 = rw t at e in omega arith))
    (λ t.
    either (same? a i)
    (λ s. rw s (eqb-false (entry p i) v t))
    (λ d. seek-misses p v (suc i) k (omega arith) (rw t at e) a (omega arith) (omega arith)))

-- and the other way round
misses-seek : (p : List ℕ) (v i k : ℕ) → ((a : ℕ) → i ≤ a → a < i + k → entry p a ≢ v) → seek p v i k ≡ 0
unfolding seek
misses-seek p v i zero none = refl
misses-seek p v i (suc k) none =
    rw (ne_eqb (entry p i) v (none i (omega arith) (omega arith))) (misses-seek p v (suc i) k (λ a h l. none a (omega arith) (omega arith)))

-- what no fault at jack j says
pub record Clean (pattern : Bool) (n : ℕ) (p : List ℕ) (j : ℕ) : Type 0 where
  pub port : Among n (entry p j)
  pub fresh : earlier p j ≡ 0
  pub away : pattern ≡ true → entry p j ≢ j

-- it is so where nothing is found
clean-sound : (pattern : Bool) (n : ℕ) (p : List ℕ) (j : ℕ) → Clean pattern n p j → fault_at pattern n p j ≡ sound
clean-sound pattern n p zero c = absurd (omega (arith, c.port))
clean-sound true n p (suc at) c =
    at_other true n p at c.port.0 c.port.1 c.fresh refl (λ e. c.away refl (e ∙ add-one at))
clean-sound false n p (suc at) c = at-panel false n p at c.port.0 c.port.1 c.fresh refl

-- what is found at a jack is one thing: no fault is none of the three
data Found (f : Fault) : Type 0 where
  is-outside : (j : ℕ) → f ≡ outside j → Found f
  is-repeated : (j k : ℕ) → f ≡ repeated j k → Found f
  is-own : (j : ℕ) → f ≡ own_jack j → Found f

not_found : {A : Type 0} (f : Fault) → f ≡ sound → Found f → A
not_found f e (is-outside j h) = absurd (true≢false (cc))
not_found f e (is-repeated j k h) = absurd (true≢false (cc))
not_found f e (is-own j h) = absurd (true≢false (cc))

-- and only there: each other port at the jack is one of the three faults
pub sound-clean : (pattern : Bool) (n : ℕ) (p : List ℕ) (j : ℕ) → fault_at pattern n p j ≡ sound → Clean pattern n p j
unfolding fault_at
sound-clean pattern n p zero e = not_found (outside 0) e (is-outside 0 refl)
sound-clean pattern n p (suc at) e =
    either (below? (entry p (suc at)) 1)
    (λ h. none (is-outside (at + 1) (at_zero pattern n p at h)))
    (λ low.
    either (below? n (entry p (suc at)))
    (λ h. none (is-outside (at + 1) (at_above pattern n p at low h)))
    (λ high.
    let fresh : earlier p (suc at) ≡ 0 = unrepeated low high (earlier p (suc at)) refl in
    record { port = (low, high); fresh = fresh; away = λ t d. none (is-own (at + 1) (at_own pattern n p at low high fresh t (d ∙ sym (add-one at)))) }))
  where
    none : {A : Type 0} → Found (fault_at pattern n p (suc at)) → A
    none f = not_found (fault_at pattern n p (suc at)) e f

    unrepeated : 1 ≤ entry p (suc at) → entry p (suc at) ≤ n → (k : ℕ) → earlier p (suc at) ≡ k → earlier p (suc at) ≡ 0
    unrepeated low high zero h = h
    unrepeated low high (suc k) h = none (is-repeated (at + 1) (k + 1) (at-repeated pattern n p at low high k h))

-- ---- all jacks

only-firsts : (f g : Fault) → first_of f g ≡ sound → (f ≡ sound) × (g ≡ sound)
only-firsts sound g e = (refl, e)
only-firsts (outside j) g e = absurd (true≢false (cc))
only-firsts (repeated j k) g e = absurd (true≢false (cc))
only-firsts (own_jack j) g e = absurd (true≢false (cc))

from-clean : (pattern : Bool) (n : ℕ) (p : List ℕ) (j k : ℕ) → fault_from pattern n p j k ≡ sound → (i : ℕ) → j ≤ i → i < j + k → Clean pattern n p i
unfolding fault_from
from-clean pattern n p j zero e i h l = absurd (omega arith)
from-clean pattern n p j (suc k) e i h l =
    let both = only-firsts (fault_at pattern n p j) (fault_from pattern n p (suc j) k) e in
    either (same? i j)
    (λ s. rw s (sound-clean pattern n p j both.0))
    (λ d. from-clean pattern n p (suc j) k both.1 i (omega arith) (omega arith))

clean-from : (pattern : Bool) (n : ℕ) (p : List ℕ) (j k : ℕ) → ((i : ℕ) → j ≤ i → i < j + k → Clean pattern n p i) → fault_from pattern n p j k ≡ sound
unfolding fault_from
clean-from pattern n p j zero each = refl
clean-from pattern n p j (suc k) each =
    rw (clean-sound pattern n p j (each j (omega arith) (omega arith))) (clean-from pattern n p (suc j) k (λ i h l. each i (omega arith) (omega arith)))

-- ---- the law

-- a later jack does not hold the port of an earlier one
pub fresh-apart : (pattern : Bool) (n : ℕ) (p : List ℕ) (j k : ℕ) → 1 ≤ j → j < k → Clean pattern n p k → entry p j ≢ entry p k
fresh-apart pattern n p j zero low l c = absurd (omega arith)
fresh-apart pattern n p j (suc k) low l c = seek-misses p (entry p (suc k)) 1 k (omega arith) c.fresh j low (omega arith)

-- what the check accepts as a panel is a permutation
pub panel-permutation : (pattern : Bool) (p : List ℕ) → fault_of pattern p ≡ sound → Permutation (length p) p
panel-permutation pattern p e =
    let clean : (i : ℕ) → Among (length p) i → Clean pattern (length p) p i = λ i h. from-clean pattern (length p) p 1 (length p) e i (omega arith) (omega arith) in
    record {
      long = refl;
      ports = λ j h. (clean j h).port;
      apart = λ j k hj hk s.
          either (below? j k)
          (λ l. absurd (fresh-apart pattern (length p) p j k hj.0 l (clean k hk) s))
          (λ l.
          either (same? j k)
          (λ d. d)
          (λ d. absurd (fresh-apart pattern (length p) p k j hk.0 (omega arith) (clean j hj) (sym s))));
    }

-- as a pattern, a pattern
pub check-derangement : (p : List ℕ) → fault_of true p ≡ sound → Derangement (length p) p
check-derangement p e =
    record {
      permutation = panel-permutation true p e;
      moved = λ j h. (from-clean true (length p) p 1 (length p) e j (omega arith) (omega arith)).away refl;
    }

-- and every permutation and every pattern is accepted
clean-permutation : (pattern : Bool) (p : List ℕ) → Permutation (length p) p → (pattern ≡ true → (j : ℕ) → Among (length p) j → entry p j ≢ j) → fault_of pattern p ≡ sound
clean-permutation pattern p P away =
    clean-from pattern (length p) p 1 (length p) (λ i h l.
    let here : Among (length p) i = omega arith in
    record {
      port = P.ports i here;
      fresh = misses-seek p (entry p i) 1 (before i) (λ a ha la e.
          let b : a < i = omega (arith, suc-before i h) in
          omega (arith, P.apart a i (omega arith) here e));
      away = λ t. away t i here;
    })

pub permutation-panel : (p : List ℕ) → Permutation (length p) p → fault_of false p ≡ sound
permutation-panel p P = clean-permutation false p P (λ t. absurd (true≢false (cc)))

pub derangement-check : (p : List ℕ) → Derangement (length p) p → fault_of true p ≡ sound
derangement-check p D = clean-permutation true p D.permutation (λ t. D.moved)
