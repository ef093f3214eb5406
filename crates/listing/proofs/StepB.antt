-- The step B(i) and the step back: what stands at each jack, that patterns go to patterns, and that each undoes the other.
-- Throughout t has m ports and the longer pattern m + 2. B(i) renames jacks and ports alike by `raise i`, which leaves jack i and port i free.
-- Assumes nothing.
use mathlib.Core.Path.{◌≡◌, sym, ap, ◌∙◌}
use mathlib.Core.Logic.{◌≢◌}
use mathlib.Core.List.{List}
use Prim.Native.Nat.{ℕ, suc}
use native.Mathlib.Omega.{arith}
use Rattle.listing.specs.Numbers.{Among, is, raise, lower}
use Rattle.listing.specs.Pattern.{entry, Permutation, Derangement}
use Rattle.listing.specs.Steps.{step_b, un_b}
use Rattle.listing.proofs.Numbers.{either, is-cases, raise-near, raise-lower, lower-raise, raise-inj, raise-among, lower-among, among-raised}
use Rattle.listing.proofs.Panels.{is-tabulated, length-tabulate, entry-tabulate}
use Rattle.listing.proofs.StepEntries.{length-b, B-last, B-raised}

-- ---- B(i) at each jack

-- what stands at jack j of B(i), t: the new jack holds i, jack i holds m + 2, and the jack that k becomes what port t's jack k becomes
pub data AtB (m i : ℕ) (t : List ℕ) (j v : ℕ) : Type 0 where
  new : j ≡ suc (suc m) → v ≡ i → AtB m i t j v
  hole : j ≡ i → v ≡ suc (suc m) → AtB m i t j v
  kept : (k : ℕ) → Among m k → j ≡ raise i k → v ≡ raise i (entry t k) → AtB m i t j v

module _ (m i : ℕ) (t : List ℕ) (fits : Among (suc m) i) where
  pub at-b : (j : ℕ) → Among (suc (suc m)) j → AtB m i t j (entry (step_b (suc (suc m)) i t) j)
  unfolding step_b
  at-b j h =
      let n = suc (suc m) in
      rw (entry-tabulate n (λ k. is k n i (is k i n (raise i (entry t (lower i k))))) j h)
      (either (is-cases j n i (is j i n (raise i (entry t (lower i j)))))
      (λ a. new a.0 a.1)
      (λ a.
      either (is-cases j i n (raise i (entry t (lower i j))))
      (λ b. hole b.0 (a.1 ∙ b.1))
      (λ b. kept (lower i j) (lower-among m i j fits (omega arith) b.0) (sym (raise-lower i j b.0)) (a.1 ∙ b.1))))

-- ---- B(i) of a permutation is one, and B(i) of a pattern is a pattern

module _ (m i : ℕ) (t : List ℕ) (fits : Among (suc m) i) (P : Permutation m t) where
  -- a port of t, renamed, is neither i nor m + 2
  inner : (k : ℕ) → Among m k → Among (suc m) (raise i (entry t k)) × (raise i (entry t k) ≢ i)
  inner k h = (raise-among m i (entry t k) (P.ports k h), (raise-near i (entry t k)).2)

  port : (j v : ℕ) → AtB m i t j v → Among (suc (suc m)) v
  port j v (new a b) = omega arith
  port j v (hole a b) = omega arith
  port j v (kept k a b c) = omega (arith, inner k a)

  once : (j k v w : ℕ) → AtB m i t j v → AtB m i t k w → v ≡ w → j ≡ k
  once j k v w (new a b) (new a' b') e = omega arith
  once j k v w (new a b) (hole a' b') e = absurd (omega arith)
  once j k v w (new a b) (kept y a' b' c') e = absurd (omega (arith, inner y a'))
  once j k v w (hole a b) (new a' b') e = absurd (omega arith)
  once j k v w (hole a b) (hole a' b') e = omega arith
  once j k v w (hole a b) (kept y a' b' c') e = absurd (omega (arith, inner y a'))
  once j k v w (kept x a b c) (new a' b') e = absurd (omega (arith, inner x a))
  once j k v w (kept x a b c) (hole a' b') e = absurd (omega (arith, inner x a))
  once j k v w (kept x a b c) (kept y a' b' c') e =
      b ∙ ap (raise i) (P.apart x y a a' (raise-inj i (entry t x) (entry t y) (sym c ∙ e ∙ c'))) ∙ sym b'

  pub B-permutation : Permutation (suc (suc m)) (step_b (suc (suc m)) i t)
  B-permutation =
      record {
        long = length-b (suc (suc m)) i t;
        ports = λ j h. port j _ (at-b m i t fits j h);
        apart = λ j k hj hk e. once j k _ _ (at-b m i t fits j hj) (at-b m i t fits k hk) e;
      }

module _ (m i : ℕ) (t : List ℕ) (fits : Among (suc m) i) (D : Derangement m t) where
  away : (j v : ℕ) → AtB m i t j v → v ≢ j
  away j v (new a b) e = omega arith
  away j v (hole a b) e = omega arith
  away j v (kept k a b c) e = D.moved k a (raise-inj i (entry t k) k (sym c ∙ e ∙ b))

  pub B-derangement : Derangement (suc (suc m)) (step_b (suc (suc m)) i t)
  B-derangement = record { permutation = B-permutation m i t fits D.permutation; moved = λ j h. away j _ (at-b m i t fits j h) }

  -- back from B(i) is back
  pub un_b-step_b : un_b (suc (suc m)) (step_b (suc (suc m)) i t) ≡ t
  unfolding un_b
  un_b-step_b =
      let p = step_b (suc (suc m)) i t in
      is-tabulated m (λ j. lower (entry p (suc (suc m))) (entry p (raise (entry p (suc (suc m))) j))) t D.permutation.long
      (λ j h.
      let a : Among (suc m) (raise i j) = raise-among m i j h in
      rw (B-last (suc (suc m)) i t (omega arith), B-raised (suc (suc m)) i t j (omega arith) (omega arith)) (lower-raise i (entry t j)))

-- ---- the step back, of a pattern p of m + 2 ports with i the entry at jack m + 2 where jack i holds m + 2

module _ (m i : ℕ) (p : List ℕ) (D : Derangement (suc (suc m)) p) (last : entry p (suc (suc m)) ≡ i) (held : entry p i ≡ suc (suc m)) where
  pub un_b-fits : Among (suc m) i
  un_b-fits = omega (arith, D.permutation.ports (suc (suc m)) (omega arith), D.moved (suc (suc m)) (omega arith))

  -- a jack that is neither i nor the last holds neither m + 2 nor i
  kept-port : (j : ℕ) → Among (suc m) j → j ≢ i → Among (suc m) (entry p j) × (entry p j ≢ i)
  kept-port j h d =
      let fits = un_b-fits in
      let low : entry p j ≢ suc (suc m) = λ e. d (D.permutation.apart j i (omega arith) (omega arith) (e ∙ sym held)) in
      let high : entry p j ≢ i = λ e. omega (arith, D.permutation.apart j (suc (suc m)) (omega arith) (omega arith) (e ∙ sym last)) in
      omega (arith, D.permutation.ports j (omega arith))

  -- the port at jack j then, renamed, is what p holds at the jack that j becomes
  back-b : (j : ℕ) → Among m j → raise i (entry (un_b (suc (suc m)) p) j) ≡ entry p (raise i j)
  unfolding un_b
  back-b j h =
      rw (entry-tabulate m (λ k. lower (entry p (suc (suc m))) (entry p (raise (entry p (suc (suc m))) k))) j h, last)
      (raise-lower i (entry p (raise i j)) (kept-port (raise i j) (raise-among m i j h) (raise-near i j).2).1)

  pub un_b-derangement : Derangement m (un_b (suc (suc m)) p)
  unfolding un_b
  un_b-derangement =
      record {
        permutation =
            record {
              long = length-tabulate m _;
              ports = λ j h.
                  among-raised m i (entry (un_b (suc (suc m)) p) j) un_b-fits
                  (rw (back-b j h) (kept-port (raise i j) (raise-among m i j h) (raise-near i j).2).0);
              apart = λ j k hj hk e.
                  let a = raise-among m i j hj in
                  let b = raise-among m i k hk in
                  raise-inj i j k
                  (D.permutation.apart (raise i j) (raise i k) (omega arith) (omega arith) (sym (back-b j hj) ∙ ap (raise i) e ∙ back-b k hk));
            };
        moved = λ j h e. let a = raise-among m i j h in D.moved (raise i j) (omega arith) (sym (back-b j h) ∙ ap (raise i) e);
      }

  -- B(i) of the step back is p
  pub step_b-un_b : step_b (suc (suc m)) i (un_b (suc (suc m)) p) ≡ p
  unfolding step_b
  step_b-un_b =
      let n = suc (suc m) in
      let t = un_b n p in
      is-tabulated n (λ j. is j n i (is j i n (raise i (entry t (lower i j))))) p D.permutation.long
      (λ j h.
      either (is-cases j n i (is j i n (raise i (entry t (lower i j)))))
      (λ a. a.1 ∙ sym last ∙ ap (entry p) (sym a.0))
      (λ a.
      either (is-cases j i n (raise i (entry t (lower i j))))
      (λ b. a.1 ∙ b.1 ∙ sym held ∙ ap (entry p) (sym b.0))
      (λ b.
      a.1 ∙ b.1
      ∙ back-b (lower i j) (lower-among m i j un_b-fits (omega arith) b.0)
      ∙ ap (entry p) (raise-lower i j b.0))))
