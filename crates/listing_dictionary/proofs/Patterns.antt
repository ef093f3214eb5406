-- The patterns of n ports are the fillings of all n jacks with the ports 1..n.
-- Assumes nothing.
use mathlib.Core.Path.{◌≡◌, refl, sym, ap, ◌∙◌, subst}
use mathlib.Core.Logic.{◌≢◌, inl, inr}
use mathlib.Core.List.{List, [], ◌∷◌}
use Prim.Native.Nat.{ℕ, zero, suc, ◌+◌, ◌≤◌, ◌<◌}
use native.Mathlib.Omega.{arith}
use lib.ListN.{length, get_or}
use Rattle.listing.specs.Numbers.{Among}
use Rattle.listing.specs.Pattern.{entry, Derangement}
use Rattle.listing.proofs.Numbers.{either, same?}
use Rattle.listing_dictionary.specs.Free.{ports, without, later}
use Rattle.listing_dictionary.proofs.Lists.{Has}
use Rattle.listing_dictionary.proofs.Free.{Above, above-without, was-there, still-there, gone, later-all, Left}
use Rattle.listing_dictionary.proofs.Fillings.{Fits, Fills}

-- ---- the ports 1..n

pub length-ports : (i m : ℕ) → length (ports i m) ≡ m
unfolding ports
length-ports i zero = refl
length-ports i (suc m) = ap suc (length-ports (suc i) m)

above-ports : (i m : ℕ) → Above i (ports i m)
unfolding ports
above-ports i zero = tt
above-ports i (suc m) = (omega arith, above-ports (suc i) m)

has-ports : (i m x : ℕ) → i < x → x ≤ i + m → Has x (ports i m)
unfolding ports
has-ports i zero x a b = absurd (omega arith)
has-ports i (suc m) x a b = either (same? x (suc i)) (λ e. inl e) (λ ne. inr (has-ports (suc i) m x (omega arith) (omega arith)))

ports-has : (i m x : ℕ) → Has x (ports i m) → (i < x) × (x ≤ i + m)
unfolding ports
ports-has i zero x h = absurd h
ports-has i (suc m) x (inl e) = (omega arith, omega arith)
ports-has i (suc m) x (inr h) = let c = ports-has (suc i) m x h in (omega arith, omega arith)

-- all ports are left at first
pub left-ports : (n : ℕ) → Left 0 n (ports 0 n)
left-ports n = record { long = length-ports 0 n; up = above-ports 0 n; top = λ y h. (ports-has 0 n y h).1 }

-- and have their own jack to come
pub later-ports : (n : ℕ) → later 0 (ports 0 n) ≡ n
later-ports n = later-all 0 (ports 0 n) (above-ports 0 n) ∙ length-ports 0 n

-- ---- panels that fit, place by place

record Spread (i : ℕ) (free p : List ℕ) : Type 0 where
  pub inside : (k : ℕ) → k < length p → Has (get_or p k 0) free
  pub apart : (k l : ℕ) → k < length p → l < length p → get_or p k 0 ≡ get_or p l 0 → k ≡ l
  pub moved : (k : ℕ) → k < length p → get_or p k 0 ≢ suc (i + k)

spread-fits : (i : ℕ) (free p : List ℕ) → Spread i free p → Fits i free p
spread-fits i free [] S = tt
spread-fits i free (x ∷ p) S =
    let z : i + 0 ≡ i = omega arith in (
      S.inside 0 (omega arith),
      λ e. S.moved 0 (omega arith) (e ∙ ap suc (sym z)),
      spread-fits (suc i) (without x free) p
          (record {
            inside = λ k h.
                still-there x (get_or p k 0) free (λ e. let f : suc k ≡ 0 = S.apart (suc k) 0 (omega arith) (omega arith) e in omega arith) (S.inside (suc k) (omega arith));
            apart = λ k l h g e. let f : suc k ≡ suc l = S.apart (suc k) (suc l) (omega arith) (omega arith) e in omega arith;
            moved = λ k h e. let f : suc i + k ≡ i + suc k = omega arith in S.moved (suc k) (omega arith) (e ∙ ap suc f);
          }),
    )

fits-spread : (i : ℕ) (free p : List ℕ) → Above 0 free → Fits i free p → Spread i free p
fits-spread i free [] r F = record { inside = λ k h. absurd (omega arith); apart = λ k l h g e. absurd (omega arith); moved = λ k h e. absurd (omega arith) }
fits-spread i free (x ∷ p) r F = more (fits-spread (suc i) (without x free) p (above-without 0 x free r) F.2)
  where
    more : Spread (suc i) (without x free) p → Spread i free (x ∷ p)
    more S = record { inside = inside; apart = apart; moved = moved }
      where
        inside : (k : ℕ) → k < suc (length p) → Has (get_or (x ∷ p) k 0) free
        inside zero h = F.0
        inside (suc k) h = was-there x (get_or p k 0) free (S.inside k (omega arith))

        apart : (k l : ℕ) → k < suc (length p) → l < suc (length p) → get_or (x ∷ p) k 0 ≡ get_or (x ∷ p) l 0 → k ≡ l
        apart zero zero h g e = refl
        apart zero (suc l) h g e = absurd (gone 0 x free r (subst (λ (y : ℕ). Has y (without x free)) (sym e) (S.inside l (omega arith))))
        apart (suc k) zero h g e = absurd (gone 0 x free r (subst (λ (y : ℕ). Has y (without x free)) e (S.inside k (omega arith))))
        apart (suc k) (suc l) h g e = ap suc (S.apart k l (omega arith) (omega arith) e)

        moved : (k : ℕ) → k < suc (length p) → get_or (x ∷ p) k 0 ≢ suc (i + k)
        moved zero h e = let z : i + 0 ≡ i = omega arith in F.1 (e ∙ ap suc z)
        moved (suc k) h e = let f : i + suc k ≡ suc i + k = omega arith in S.moved k (omega arith) (e ∙ ap suc f)

-- ---- patterns

-- a pattern fills all the jacks
pub derangement-fills : (n : ℕ) (p : List ℕ) → Derangement n p → Fills n 0 (ports 0 n) p
derangement-fills n p D =
    let long : length p ≡ n = D.permutation.long in
    let spread : Spread 0 (ports 0 n) p = record {
      inside = λ k h. let a = D.permutation.ports (suc k) (omega arith) in has-ports 0 n (get_or p k 0) (omega arith) (omega arith);
      apart = λ k l h g e. let f : suc k ≡ suc l = D.permutation.apart (suc k) (suc l) (omega arith) (omega arith) e in omega arith;
      moved = λ k h e. let z : 0 + k ≡ k = omega arith in D.moved (suc k) (omega arith) (e ∙ ap suc z);
    } in
    (long, spread-fits 0 (ports 0 n) p spread)

-- and what fills them is a pattern
pub fills-derangement : (n : ℕ) (p : List ℕ) → Fills n 0 (ports 0 n) p → Derangement n p
fills-derangement n p F = record { permutation = record { long = F.0; ports = among; apart = apart }; moved = moved }
  where
    S : Spread 0 (ports 0 n) p
    S = fits-spread 0 (ports 0 n) p (above-ports 0 n) F.1

    among : (j : ℕ) → Among n j → Among n (entry p j)
    among zero a = absurd (omega arith)
    among (suc k) a = let c = ports-has 0 n (get_or p k 0) (S.inside k (omega (arith, F.0))) in omega arith

    apart : (j k : ℕ) → Among n j → Among n k → entry p j ≡ entry p k → j ≡ k
    apart zero k a b e = absurd (omega arith)
    apart (suc j) zero a b e = absurd (omega arith)
    apart (suc j) (suc k) a b e = ap suc (S.apart j k (omega (arith, F.0)) (omega (arith, F.0)) e)

    moved : (j : ℕ) → Among n j → entry p j ≢ j
    moved zero a e = absurd (omega arith)
    moved (suc k) a e = let z : k ≡ 0 + k = omega arith in S.moved k (omega (arith, F.0)) (e ∙ ap suc z)
