-- Every pattern of 2 ports or more comes from exactly one shorter pattern, by exactly one of A and B. What the two steps share is said here once, by the letter.
-- Throughout the longer pattern has m + 2 ports.
-- Assumes nothing.
use mathlib.Core.Path.{◌≡◌, refl, sym, ap, ◌∙◌}
use mathlib.Core.Logic.{◌≢◌}
use mathlib.Core.List.{List}
use Prim.Native.Nat.{ℕ, zero, suc}
use native.Mathlib.Omega.{arith}
use borrow.Author.Tests.{eq-eqb, ne_eqb}
use Rattle.listing.specs.Numbers.{Among}
use Rattle.listing.specs.Pattern.{entry, Derangement}
use Rattle.listing.specs.Steps.{Letter, by_a, by_b, shorter, step, back, letter}
use Rattle.listing.proofs.Numbers.{either, same?}
use Rattle.listing.proofs.StepEntries.{A-last, B-at, B-last}
use Rattle.listing.proofs.StepA.{A-derangement, A-free, un_a-step_a, un_a-derangement, step_a-un_a}
use Rattle.listing.proofs.StepB.{B-derangement, un_b-step_b, un_b-derangement, step_b-un_b}

-- ---- induction on the shorter patterns

-- what holds for 0 and for 1, and for n + 2 if it does for n + 1 and for n, holds for all
pub shorter-first : (P : ℕ → Type 0) → P 0 → P 1 → ((m : ℕ) → ((w : Letter) → P (shorter w (suc (suc m)))) → P (suc (suc m))) → (n : ℕ) → P n
shorter-first P none single more zero = none
shorter-first P none single more (suc zero) = single
shorter-first P none single more (suc (suc m)) =
    more m (λ w. elim w as (λ x. P (shorter x (suc (suc m)))) [ by_a ↦ shorter-first P none single more (suc m) | by_b ↦ shorter-first P none single more m ])

-- ---- the longer pattern

-- it is a pattern
pub step-derangement : (w : Letter) (m i : ℕ) (t : List ℕ) → Among (suc m) i → Derangement (shorter w (suc (suc m))) t
    → Derangement (suc (suc m)) (step w (suc (suc m)) i t)
step-derangement by_a m i t fits D = A-derangement (suc m) i t fits D
step-derangement by_b m i t fits D = B-derangement m i t fits D

-- i stands at its last jack
pub step_end : (w : Letter) (m i : ℕ) (t : List ℕ) → Among (suc m) i → Derangement (shorter w (suc (suc m))) t
    → entry (step w (suc (suc m)) i t) (suc (suc m)) ≡ i
step_end by_a m i t fits D = A-last (suc (suc m)) i t (omega arith)
step_end by_b m i t fits D = B-last (suc (suc m)) i t (omega arith)

-- the step back leads back
pub back_step : (w : Letter) (m i : ℕ) (t : List ℕ) → Among (suc m) i → Derangement (shorter w (suc (suc m))) t
    → back w (suc (suc m)) (step w (suc (suc m)) i t) ≡ t
back_step by_a m i t fits D = un_a-step_a (suc m) i t fits D
back_step by_b m i t fits D = un_b-step_b m i t fits D

-- ---- the letter

-- by B if jack i holds n, else by A
pub letter-b : (m : ℕ) (p : List ℕ) (i : ℕ) → entry p (suc (suc m)) ≡ i → entry p i ≡ suc (suc m) → letter (suc (suc m)) p ≡ by_b
unfolding letter
letter-b m p i last held = rw (last, eq-eqb (entry p i) (suc (suc m)) held)

pub letter-a : (m : ℕ) (p : List ℕ) (i : ℕ) → entry p (suc (suc m)) ≡ i → entry p i ≢ suc (suc m) → letter (suc (suc m)) p ≡ by_a
unfolding letter
letter-a m p i last free = rw (last, ne_eqb (entry p i) (suc (suc m)) free)

-- a pattern shows the letter that it was made by
pub letter-step : (w : Letter) (m i : ℕ) (t : List ℕ) → Among (suc m) i → Derangement (shorter w (suc (suc m))) t
    → letter (suc (suc m)) (step w (suc (suc m)) i t) ≡ w
letter-step by_a m i t fits D = letter-a m (step by_a (suc (suc m)) i t) i (step_end by_a m i t fits D) (A-free (suc m) i t fits D)
letter-step by_b m i t fits D = letter-b m (step by_b (suc (suc m)) i t) i (step_end by_b m i t fits D) (B-at (suc (suc m)) i t (omega arith) (omega arith))

-- ---- every pattern has been made

-- p is made by a letter, with an i of 1 to n - 1, from a shorter pattern
pub record Made (m : ℕ) (p : List ℕ) : Type 0 where
  pub by : Letter
  pub i : ℕ
  pub from : List ℕ
  pub fits : Among (suc m) i
  pub pattern : Derangement (shorter by (suc (suc m))) from
  pub is : p ≡ step by (suc (suc m)) i from

-- the entry at the last jack is an i of 1 to n - 1
pub end_fits : (m : ℕ) (p : List ℕ) → Derangement (suc (suc m)) p → Among (suc m) (entry p (suc (suc m)))
end_fits m p D = omega (arith, D.permutation.ports (suc (suc m)) (omega arith), D.moved (suc (suc m)) (omega arith))

-- the step back by the letter that p came by leads to a pattern, from which the step itself leads to p
pub letter-back : (m : ℕ) (p : List ℕ) → Derangement (suc (suc m)) p
    → Derangement (shorter (letter (suc (suc m)) p) (suc (suc m))) (back (letter (suc (suc m)) p) (suc (suc m)) p)
    × (p ≡ step (letter (suc (suc m)) p) (suc (suc m)) (entry p (suc (suc m))) (back (letter (suc (suc m)) p) (suc (suc m)) p))
letter-back m p D =
    let i = entry p (suc (suc m)) in
    either (same? (entry p i) (suc (suc m)))
    (λ held. rw (letter-b m p i refl held) (un_b-derangement m i p D refl held, sym (step_b-un_b m i p D refl held)))
    (λ free. rw (letter-a m p i refl free) (un_a-derangement (suc m) i p D refl free, sym (step_a-un_a (suc m) i p D refl free)))

-- with i the entry at jack n: by B if jack i holds n, else by A
pub made : (m : ℕ) (p : List ℕ) → Derangement (suc (suc m)) p → Made m p
made m p D =
    record {
      by = letter (suc (suc m)) p;
      i = entry p (suc (suc m));
      from = back (letter (suc (suc m)) p) (suc (suc m)) p;
      fits = end_fits m p D;
      pattern = (letter-back m p D).0;
      is = (letter-back m p D).1;
    }

-- and once only: two that make the same pattern have the same letter, with the same i, from the same shorter pattern
pub made-once : (m : ℕ) (v w : Letter) (i k : ℕ) (t u : List ℕ) → Among (suc m) i → Among (suc m) k
    → Derangement (shorter v (suc (suc m))) t → Derangement (shorter w (suc (suc m))) u
    → step v (suc (suc m)) i t ≡ step w (suc (suc m)) k u → (v ≡ w) × (i ≡ k) × (t ≡ u)
made-once m v w i k t u fits fits' D E e =
    let n = suc (suc m) in
    let same : v ≡ w = sym (letter-step v m i t fits D) ∙ ap (letter n) e ∙ letter-step w m k u fits' E in (
      same,
      sym (step_end v m i t fits D) ∙ ap (λ (p : List ℕ). entry p n) e ∙ step_end w m k u fits' E,
      sym (back_step v m i t fits D) ∙ ap (back v n) e ∙ ap (λ (x : Letter). back x n (step w n k u)) same ∙ back_step w m k u fits' E,
    )
