-- What the loop over the gaps keeps: the gaps from rank x on are the next one and those after it (`on-found`), or there are none (`on_none`). And nowhere, as a
-- rank, is never the lowest (`lowest-padded`).
-- Assumes nothing.
use mathlib.Core.Path.{◌≡◌, refl, sym, ap, ◌∙◌}
use mathlib.Core.List.{List, [], ◌∷◌, ◌++◌}
use Prim.Native.Nat.{ℕ, zero, suc, ◌+◌, ◌-◌, ◌≤◌, ◌<◌}
use native.Mathlib.Omega.{arith}
use lib.ListN.{replicate}
use Rattle.listing.proofs.Numbers.{either, below?}
use Rattle.promise_arcs.specs.Gaps.{Arc}
use Rattle.promise_arcs.specs.Finding.{gap_at, lowest, gaps_from, gaps_on}
use Rattle.promise_arcs.proofs.Finding.{lowest-cases, next, next-on, from_found, from-none}

module _ (c : ℕ) (As : List Arc) where
  -- looking at more ranks than there are finds no more
  from-any : (j k x : ℕ) → c ≤ x + j → c ≤ x + k → gaps_from c As j x ≡ gaps_from c As k x
  unfolding gaps_from
  from-any zero zero x hj hk = refl
  from-any zero (suc k) x hj hk =
      either (below? (next c As x) c) (λ l. absurd (omega (arith, next-on c As x l))) (λ l. sym (from-none c As k x l))
  from-any (suc j) zero x hj hk =
      either (below? (next c As x) c) (λ l. absurd (omega (arith, next-on c As x l))) (λ l. from-none c As j x l)
  from-any (suc j) (suc k) x hj hk =
      let e : ℕ = next c As x in
      either (below? e c)
      (λ l.
      let lo : x ≤ e = next-on c As x l in
      from_found c As j x l ∙ ap {B = List Arc} (λ Xs. gap_at c As e ∷ Xs) (from-any j k (suc e) (omega arith) (omega arith)) ∙ sym (from_found c As k x l))
      (λ l. from-none c As j x l ∙ sym (from-none c As k x l))

  -- where a first rank is found, its gap comes, and then those from the next rank on
  pub on-found : (x : ℕ) → next c As x < c → gaps_on c As x ≡ gap_at c As (next c As x) ∷ gaps_on c As (suc (next c As x))
  on-found x h =
      let e : ℕ = next c As x in
      let lo : x ≤ e = next-on c As x h in
      let k : ℕ = c - suc x in
      let s : c - x ≡ suc k = omega arith in
      ap (λ m. gaps_from c As m x) s ∙ from_found c As k x h
      ∙ ap {B = List Arc} (λ Xs. gap_at c As e ∷ Xs) (from-any k (c - suc e) (suc e) (omega arith) (omega arith))

  -- and where none is found there are no more
  pub on_none : (x : ℕ) → c ≤ next c As x → gaps_on c As x ≡ []
  unfolding gaps_from
  on_none x h =
      either (below? x c)
      (λ l. let k : ℕ = c - suc x in let s : c - x ≡ suc k = omega arith in ap (λ m. gaps_from c As m x) s ∙ from-none c As k x h)
      (λ l. let s : c - x ≡ 0 = omega arith in ap (λ m. gaps_from c As m x) s)

-- entries that stand for nowhere change nothing
lowest-most : (c x : ℕ) (es : List ℕ) → lowest c x es ≤ c
unfolding lowest
lowest-most c x [] = omega arith
lowest-most c x (e ∷ es) = either (lowest-cases c x e es) (λ w. omega (arith, w.1, w.2, lowest-most c x es)) (λ w. omega (arith, w.0, lowest-most c x es))

lowest-nowhere : (c x k : ℕ) → lowest c x (replicate k c) ≡ c
unfolding lowest
lowest-nowhere c x zero = refl
lowest-nowhere c x (suc k) =
    let n : lowest c x (replicate k c) ≡ c = lowest-nowhere c x k in
    either (lowest-cases c x c (replicate k c)) (λ w. w.1) (λ w. w.0 ∙ n)

pub lowest-padded : (c x k : ℕ) (es : List ℕ) → lowest c x (es ++ replicate k c) ≡ lowest c x es
unfolding lowest
lowest-padded c x k [] = lowest-nowhere c x k
lowest-padded c x k (e ∷ es) = rw (lowest-padded c x k es)
