-- The step A(i) and the step back: what stands at each jack, that patterns go to patterns, and that each undoes the other.
-- Throughout t has m ports and the longer pattern m + 1.
-- Assumes nothing.
use mathlib.Core.Path.{◌≡◌, sym, ap, ◌∙◌}
use mathlib.Core.Logic.{◌≢◌}
use mathlib.Core.List.{List}
use Prim.Native.Nat.{ℕ, suc}
use native.Mathlib.Omega.{arith}
use Rattle.listing.specs.Numbers.{Among, is, trade}
use Rattle.listing.specs.Pattern.{entry, Permutation, Derangement}
use Rattle.listing.specs.Steps.{step_a, un_a}
use Rattle.listing.proofs.Numbers.{either, is-cases, trade-cases}
use Rattle.listing.proofs.Panels.{is-tabulated, length-tabulate, entry-tabulate}
use Rattle.listing.proofs.StepEntries.{length-a, A-last}

-- ---- A(i) at each jack

-- what stands at jack j of A(i), t: the new jack holds i, the one that held i holds m + 1, any other what it held
pub data AtA (m i : ℕ) (t : List ℕ) (j v : ℕ) : Type 0 where
  new : j ≡ suc m → v ≡ i → AtA m i t j v
  held : Among m j → entry t j ≡ i → v ≡ suc m → AtA m i t j v
  kept : Among m j → entry t j ≢ i → v ≡ entry t j → AtA m i t j v

pub at-a : (m i : ℕ) (t : List ℕ) (j : ℕ) → Among (suc m) j → AtA m i t j (entry (step_a (suc m) i t) j)
unfolding step_a
at-a m i t j h =
    rw (entry-tabulate (suc m) (λ k. is k (suc m) i (trade i (suc m) (entry t k))) j h)
    (either (is-cases j (suc m) i (trade i (suc m) (entry t j)))
    (λ a. new a.0 a.1)
    (λ a.
    either (trade-cases i (suc m) (entry t j))
    (λ b. held (omega arith) b.0 (a.1 ∙ b.1))
    (λ b. kept (omega arith) b.0 (a.1 ∙ b.1))))

-- ---- A(i) of a permutation is one, and A(i) of a pattern is a pattern

module _ (m i : ℕ) (t : List ℕ) (fits : Among m i) (P : Permutation m t) where
  port : (j v : ℕ) → AtA m i t j v → Among (suc m) v
  port j v (new a b) = omega arith
  port j v (held a b c) = omega arith
  port j v (kept a b c) = omega (arith, P.ports j a)

  once : (j k v w : ℕ) → AtA m i t j v → AtA m i t k w → v ≡ w → j ≡ k
  once j k v w (new a b) (new a' b') e = omega arith
  once j k v w (new a b) (held a' b' c') e = absurd (omega arith)
  once j k v w (new a b) (kept a' b' c') e = absurd (omega arith)
  once j k v w (held a b c) (new a' b') e = absurd (omega arith)
  once j k v w (held a b c) (held a' b' c') e = P.apart j k a a' (b ∙ sym b')
  once j k v w (held a b c) (kept a' b' c') e = absurd (omega (arith, P.ports k a'))
  once j k v w (kept a b c) (new a' b') e = absurd (omega arith)
  once j k v w (kept a b c) (held a' b' c') e = absurd (omega (arith, P.ports j a))
  once j k v w (kept a b c) (kept a' b' c') e = P.apart j k a a' (sym c ∙ e ∙ c')

  pub A-permutation : Permutation (suc m) (step_a (suc m) i t)
  A-permutation =
      record {
        long = length-a (suc m) i t;
        ports = λ j h. port j _ (at-a m i t j h);
        apart = λ j k hj hk e. once j k _ _ (at-a m i t j hj) (at-a m i t k hk) e;
      }

module _ (m i : ℕ) (t : List ℕ) (fits : Among m i) (D : Derangement m t) where
  away : (j v : ℕ) → AtA m i t j v → v ≢ j
  away j v (new a b) = omega arith
  away j v (held a b c) = omega arith
  away j v (kept a b c) = omega (arith, D.moved j a)

  pub A-derangement : Derangement (suc m) (step_a (suc m) i t)
  A-derangement = record { permutation = A-permutation m i t fits D.permutation; moved = λ j h. away j _ (at-a m i t j h) }

  -- jack i does not hold m + 1: a pattern by A is not one by B
  free : (v : ℕ) → AtA m i t i v → v ≢ suc m
  free v (new a b) = absurd (omega arith)
  free v (held a b c) = absurd (D.moved i a b)
  free v (kept a b c) = omega (arith, D.permutation.ports i a)

  pub A-free : entry (step_a (suc m) i t) i ≢ suc m
  A-free = free _ (at-a m i t i (omega arith))

  -- back from A(i) is back
  pub un_a-step_a : un_a (suc m) (step_a (suc m) i t) ≡ t
  unfolding un_a
  un_a-step_a =
      is-tabulated m (λ j. trade (suc m) (entry (step_a (suc m) i t) (suc m)) (entry (step_a (suc m) i t) j)) t D.permutation.long
      (λ j h. rw (A-last (suc m) i t (omega arith)) (undone j _ h (at-a m i t j (omega arith))))
    where
      undone : (j v : ℕ) → Among m j → AtA m i t j v → trade (suc m) i v ≡ entry t j
      undone j v h (new a b) = absurd (omega arith)
      undone j v h (held a b c) = either (trade-cases (suc m) i v) (λ x. x.1 ∙ sym b) (λ x. absurd (x.0 c))
      undone j v h (kept a b c) = either (trade-cases (suc m) i v) (λ x. absurd (omega (arith, D.permutation.ports j a))) (λ x. x.1 ∙ c)

-- ---- the step back, of a pattern p of m + 1 ports with i the entry at jack m + 1 where jack i does not hold m + 1

-- what stands at jack j then
data BackA (m i : ℕ) (p : List ℕ) (j v : ℕ) : Type 0 where
  filled : entry p j ≡ suc m → v ≡ i → BackA m i p j v
  stayed : entry p j ≢ suc m → v ≡ entry p j → BackA m i p j v

module _ (m i : ℕ) (p : List ℕ) (D : Derangement (suc m) p) (last : entry p (suc m) ≡ i) (free : entry p i ≢ suc m) where
  back-a : (j : ℕ) → Among m j → BackA m i p j (entry (un_a (suc m) p) j)
  unfolding un_a
  back-a j h =
      rw (entry-tabulate m (λ k. trade (suc m) (entry p (suc m)) (entry p k)) j h, last)
      (either (trade-cases (suc m) i (entry p j)) (λ c. filled c.0 c.1) (λ c. stayed c.0 c.1))

  pub un_a-fits : Among m i
  un_a-fits = omega (arith, D.permutation.ports (suc m) (omega arith), D.moved (suc m) (omega arith))

  -- the entry at the last jack stands at no other
  other : (j : ℕ) → Among m j → entry p j ≢ i
  other j h e = omega (arith, D.permutation.apart j (suc m) (omega arith) (omega arith) (e ∙ sym last))

  un-port : (j v : ℕ) → Among m j → BackA m i p j v → Among m v
  un-port j v h (filled a b) = omega (arith, un_a-fits)
  un-port j v h (stayed a b) = omega (arith, D.permutation.ports j (omega arith))

  un-once : (j k v w : ℕ) → Among m j → Among m k → BackA m i p j v → BackA m i p k w → v ≡ w → j ≡ k
  un-once j k v w h h' (filled a b) (filled a' b') e = D.permutation.apart j k (omega arith) (omega arith) (a ∙ sym a')
  un-once j k v w h h' (filled a b) (stayed a' b') e = absurd (other k h' (sym b' ∙ sym e ∙ b))
  un-once j k v w h h' (stayed a b) (filled a' b') e = absurd (other j h (sym b ∙ e ∙ b'))
  un-once j k v w h h' (stayed a b) (stayed a' b') e = D.permutation.apart j k (omega arith) (omega arith) (sym b ∙ e ∙ b')

  un-away : (j v : ℕ) → Among m j → BackA m i p j v → v ≢ j
  un-away j v h (filled a b) e = free (ap (entry p) (sym b ∙ e) ∙ a)
  un-away j v h (stayed a b) e = D.moved j (omega arith) (sym b ∙ e)

  pub un_a-derangement : Derangement m (un_a (suc m) p)
  unfolding un_a
  un_a-derangement =
      record {
        permutation =
            record {
              long = length-tabulate m (λ k. trade (suc m) (entry p (suc m)) (entry p k));
              ports = λ j h. un-port j _ h (back-a j h);
              apart = λ j k h h' e. un-once j k _ _ h h' (back-a j h) (back-a k h') e;
            };
        moved = λ j h. un-away j _ h (back-a j h);
      }

  -- A(i) of the step back is p
  pub step_a-un_a : step_a (suc m) i (un_a (suc m) p) ≡ p
  unfolding step_a
  step_a-un_a =
      is-tabulated (suc m) (λ j. is j (suc m) i (trade i (suc m) (entry (un_a (suc m) p) j))) p D.permutation.long
      (λ j h.
      either (is-cases j (suc m) i (trade i (suc m) (entry (un_a (suc m) p) j)))
      (λ c. c.1 ∙ sym last ∙ ap (entry p) (sym c.0))
      (λ c. let a : Among m j = omega arith in c.1 ∙ redone j _ a (back-a j a)))
    where
      redone : (j v : ℕ) → Among m j → BackA m i p j v → trade i (suc m) v ≡ entry p j
      redone j v h (filled a b) = either (trade-cases i (suc m) v) (λ x. x.1 ∙ sym a) (λ x. absurd (x.0 b))
      redone j v h (stayed a b) = either (trade-cases i (suc m) v) (λ x. absurd (other j h (sym b ∙ x.0))) (λ x. x.1 ∙ b)
