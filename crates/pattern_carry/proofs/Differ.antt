-- The first jack at which two panels differ: what it says, and the loop that looks for it.
-- Assumes nothing.
use mathlib.Core.Path.{◌≡◌, refl, sym, ap, ◌∙◌}
use mathlib.Core.Logic.{◌≢◌, ◌⊎◌, inl, inr}
use mathlib.Core.List.{List}
use Prim.Native.Nat.{ℕ, zero, suc, ◌+◌, ◌-◌, ◌≤◌, ◌<◌}
use native.Mathlib.Numerals.{add-one}
use native.Mathlib.Omega.{arith}
use lib.ListN.{take, get_or}
use borrow.Author.Tests.{eq-eqb, ne_eqb}
use Rattle.listing.specs.Numbers.{Among}
use Rattle.listing.specs.Pattern.{entry}
use Rattle.listing.proofs.Numbers.{either, same?}
use Rattle.pattern_carry.specs.Panels.{wrong_from}
use Rattle.listing.proofs.Panels.{entry-front}

-- ---- jack by jack

-- a jack that is right is passed over
pub right-on : (k j : ℕ) (p q : List ℕ) → entry p j ≡ entry q j → wrong_from (suc k) j p q ≡ wrong_from k (suc j) p q
unfolding wrong_from
right-on k j p q e = rw (eq-eqb (entry p j) (entry q j) e)

-- one that is wrong is the first
pub wrong-here : (k j : ℕ) (p q : List ℕ) → entry p j ≢ entry q j → wrong_from (suc k) j p q ≡ j
unfolding wrong_from
wrong-here k j p q e = rw (ne_eqb (entry p j) (entry q j) e)

-- what the first wrong jack says: no jack is wrong, or it is one of them, and wrong
pub record Wrong (k j : ℕ) (p q : List ℕ) : Type 0 where
  pub low : j ≤ wrong_from k j p q
  pub high : wrong_from k j p q < j + k
  pub wrong : entry p (wrong_from k j p q) ≢ entry q (wrong_from k j p q)

pub wrong-cases : (k j : ℕ) (p q : List ℕ) → 1 ≤ j
    → ((wrong_from k j p q ≡ 0) × ((i : ℕ) → j ≤ i → i < j + k → entry p i ≡ entry q i)) ⊎ Wrong k j p q
unfolding wrong_from
wrong-cases zero j p q h = inl (refl, λ i a b. absurd (omega arith))
wrong-cases (suc k) j p q h =
    either (same? (entry p j) (entry q j))
    (λ e.
    let on : wrong_from (suc k) j p q ≡ wrong_from k (suc j) p q = right-on k j p q e in
    either (wrong-cases k (suc j) p q (omega arith))
    (λ n. inl (on ∙ n.0, λ i a b. either (same? i j) (λ s. rw s e) (λ s. n.1 i (omega arith) (omega arith))))
    (λ w. inr (record { low = rw on (omega (arith, w.low)); high = rw on (omega (arith, w.high)); wrong = rw on w.wrong })))
    (λ e.
    let at : wrong_from (suc k) j p q ≡ j = wrong-here k j p q e in
    inr (record { low = rw at (omega arith); high = rw at (omega arith); wrong = rw at e }))

-- a first wrong jack is a jack of the panel
pub wrong-among : (n : ℕ) (p q : List ℕ) → wrong_from n 1 p q ≢ 0 → Among n (wrong_from n 1 p q)
wrong-among n p q z = either (wrong-cases n 1 p q (omega arith)) (λ s. absurd (z s.0)) (λ w. omega (arith, w.low, w.high))

-- ---- the loop that looks for a wrong jack: those up to `at` are right, so those after it decide

module _ (n : ℕ) (p q : List ℕ) (at : ℕ) where
  -- after them all, none is wrong
  pub none_left : n ≤ at → wrong_from (n - at) (suc at) (take n p) (take n q) ≡ 0
  unfolding wrong_from
  none_left h = let z : n - at ≡ 0 = omega arith in rw z refl

  module _ (h : at < n) where
    -- index `at` is jack `at` + 1
    jack : (r : List ℕ) → get_or r at 0 ≡ entry (take n r) (suc at)
    jack r = let s : at ≡ suc at - 1 = omega arith in ap (λ i. get_or r i 0) s ∙ entry-front n r (suc at) (omega arith)

    -- it and the jacks after it
    more : n - at ≡ suc (n - (at + 1))
    more = omega arith

    pub found-wrong : get_or p at 0 ≢ get_or q at 0 → wrong_from (n - at) (suc at) (take n p) (take n q) ≡ at + 1
    found-wrong e =
        ap (λ k. wrong_from k (suc at) (take n p) (take n q)) more
        ∙ wrong-here (n - (at + 1)) (suc at) (take n p) (take n q) (λ f. e (jack p ∙ f ∙ sym (jack q)))
        ∙ sym (add-one at)

    pub found_right : get_or p at 0 ≡ get_or q at 0
        → wrong_from (n - at) (suc at) (take n p) (take n q) ≡ wrong_from (n - (at + 1)) (suc (at + 1)) (take n p) (take n q)
    found_right e =
        ap (λ k. wrong_from k (suc at) (take n p) (take n q)) more
        ∙ right-on (n - (at + 1)) (suc at) (take n p) (take n q) (sym (jack p) ∙ e ∙ jack q)
        ∙ ap (λ j. wrong_from (n - (at + 1)) (suc j) (take n p) (take n q)) (sym (add-one at))
