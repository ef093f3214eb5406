-- The first jack at which two panels differ decides the test of equality and the first order of a carriage.
-- Assumes nothing.
use mathlib.Core.Path.{◌≡◌, refl, sym, ap, ◌∙◌}
use mathlib.Core.Logic.{◌≢◌}
use mathlib.Core.Bool.{true, false, cond}
use mathlib.Core.List.{List}
use mathlib.Core.Option.{none, some}
use Prim.Native.Nat.{ℕ, zero, suc, ◌≤◌}
use native.Mathlib.Omega.{arith}
use lib.Dec.{eqb}
use lib.ListN.{length, take}
use borrow.Author.Tests.{eq-eqb, ne_eqb}
use Rattle.listing.specs.Pattern.{entry}
use lib.Seq.{length-take-le}
use Rattle.listing.proofs.Numbers.{either, same?}
use Rattle.listing.proofs.Panels.{same_entries}
use Rattle.promise.specs.Tests.{same}
use Rattle.promise.specs.Carriage.{fetch, carriage_from, carriage}
use Rattle.promise.proofs.Tests.{tells-same, fails}
use Rattle.pattern_carry.specs.Panels.{wrong_from}
use Rattle.pattern_carry.proofs.Differ.{wrong-cases}
use Rattle.campaign_way.specs.Coming.{next_of}

-- ---- two panels of n jacks

-- they are the same exactly if no jack is wrong
pub same-wrong : (n : ℕ) (p q : List ℕ) → length p ≡ n → length q ≡ n → same p q ≡ eqb (wrong_from n 1 p q) 0
same-wrong n p q lp lq =
    either (wrong-cases n 1 p q (omega arith))
    (λ s.
    let e : p ≡ q = same_entries p q (lp ∙ sym lq) (λ j a. s.1 j a.0 (omega (arith, a.1))) in
    (tells-same p q).1 e ∙ sym (eq-eqb (wrong_from n 1 p q) 0 s.0))
    (λ w.
    fails (same p q) (tells-same p q) (λ e. w.wrong (ap (λ r. entry r (wrong_from n 1 p q)) e))
    ∙ sym (ne_eqb (wrong_from n 1 p q) 0 (λ z. absurd (omega (arith, w.low)))))

-- the fronts of two arrays: w is the first wrong jack
module _ (n : ℕ) (p q : List ℕ) (hp : n ≤ length p) (hq : n ≤ length q) (w : ℕ) (e : w ≡ wrong_from n 1 (take n p) (take n q)) where
  pub front_same : w ≡ 0 → same (take n p) (take n q) ≡ true
  front_same z =
      same-wrong n (take n p) (take n q) (length-take-le n p hp) (length-take-le n q hq) ∙ ap (λ x. eqb x 0) (sym e) ∙ eq-eqb w 0 z

  pub front-other : w ≢ 0 → same (take n p) (take n q) ≡ false
  front-other z =
      same-wrong n (take n p) (take n q) (length-take-le n p hp) (length-take-le n q hq) ∙ ap (λ x. eqb x 0) (sym e) ∙ ne_eqb w 0 z

-- ---- the first order of a carriage: nothing where no jack is wrong, else the first wrong jack fetches its port

first-from : (k j : ℕ) (p t : List ℕ) → 1 ≤ j
    → next_of (some (carriage_from k j p t)) ≡ cond (eqb (wrong_from k j p t) 0) (some none) (some (some (fetch p t (wrong_from k j p t))))
unfolding carriage_from wrong_from
first-from zero j p t h = refl
first-from (suc k) j p t h =
    either (same? (entry p j) (entry t j))
    (λ e. rw (eq-eqb (entry p j) (entry t j) e) (first-from k (suc j) p t (omega arith)))
    (λ e.
    let z : j ≢ 0 = λ z. absurd (omega arith) in
    rw (ne_eqb (entry p j) (entry t j) e, ne_eqb j 0 z) refl)

pub carriage-first : (n : ℕ) (p t : List ℕ) → length t ≡ n
    → next_of (some (carriage p t)) ≡ cond (eqb (wrong_from n 1 p t) 0) (some none) (some (some (fetch p t (wrong_from n 1 p t))))
unfolding carriage
carriage-first n p t l =
    ap (λ m. next_of (some (carriage_from m 1 p t))) l ∙ first-from n 1 p t (omega arith)
