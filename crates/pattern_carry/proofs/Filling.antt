-- Arrays that are filled from the front, one entry a turn.
-- Assumes nothing.
use mathlib.Core.Path.{◌≡◌, refl, sym, ap, ◌∙◌}
use mathlib.Core.List.{List, [], ◌∷◌, ◌++◌}
use Prim.Native.Nat.{ℕ, zero, suc, ◌+◌, ◌<◌}
use native.Mathlib.Numerals.{add-one}
use native.Mathlib.Omega.{arith}
use lib.ListN.{length, take, get_or, set}
use lib.Seq.{take-suc, take-suc-set, take_all}
use Rattle.listing.specs.Pattern.{tabulate}

-- one jack more of a tabulated panel
pub tabulate-more : (n : ℕ) (g : ℕ → ℕ) → tabulate (suc n) g ≡ tabulate n g ++ (g (suc n) ∷ [])
unfolding tabulate
tabulate-more zero g = refl
tabulate-more (suc n) g = ap (λ (p : List ℕ). g 1 ∷ p) (tabulate-more n (λ j. g (suc j)))

-- the entry of t at index j is stored there
pub copy_stored : (t u : List ℕ) (j : ℕ) → j < length u → j < length t → take j u ≡ take j t → take (j + 1) (set u j (get_or t j 0)) ≡ take (j + 1) t
copy_stored t u j hu ht p = rw (add-one, take-suc-set u j (get_or t j 0), take-suc t j 0, p)

-- after the last turn u is the front of t
pub copy-all : (t u : List ℕ) (j m : ℕ) → j ≡ m → length u ≡ m → take j u ≡ take j t → u ≡ take m t
copy-all t u j m e l p = sym (take_all m u (omega arith)) ∙ rw e at p
