-- The panel at home, set jack by jack.
-- Assumes nothing.
use mathlib.Core.Path.{◌≡◌, refl, sym, ap, ◌∙◌}
use mathlib.Core.List.{List, [], ◌∷◌, ◌++◌}
use Prim.Native.Nat.{ℕ, suc, ◌+◌, ◌<◌}
use native.Mathlib.Numerals.{add-one}
use native.Mathlib.Omega.{arith}
use lib.ListN.{length, set, replicate}
use Rattle.listing.specs.Numbers.{is}
use Rattle.listing.specs.Pattern.{tabulate}
use Rattle.listing.specs.Ends.{home}
use Rattle.listing.specs.Limits.{most_ports}
use Rattle.listing.proofs.Panels.{length-tabulate}
use Rattle.words.specs.Padded.{padded}
use Rattle.words.proofs.Padded.{padded-set}
use Rattle.pattern_carry.proofs.Filling.{tabulate-more}

-- the panel with its first j jacks set, and 0 beyond
abbrev pub home_to : ℕ → ℕ → List ℕ
home_to n j = padded most_ports 0 (tabulate j (λ i. is i n 1 (suc i)))

-- none is set
pub home-none : (n : ℕ) → replicate most_ports 0 ≡ home_to n 0
unfolding tabulate
home-none n = refl

-- one more
pub home-more : (n j v : ℕ) (p : List ℕ) → j < most_ports → p ≡ home_to n j → v ≡ is (j + 1) n 1 (suc (j + 1)) → set p j v ≡ home_to n (j + 1)
home-more n j v p h e f =
    let g : ℕ → ℕ = λ i. is i n 1 (suc i) in
    let long : length (tabulate j g) ≡ j = length-tabulate j g in
    ap (λ q. set q j v) e
    ∙ ap (λ k. set (home_to n j) k v) (sym long)
    ∙ padded-set most_ports 0 v (tabulate j g) (omega arith)
    ∙ ap (λ x. padded most_ports 0 (tabulate j g ++ (x ∷ []))) (f ∙ ap g (add-one j))
    ∙ ap (padded most_ports 0) (sym (tabulate-more j g) ∙ ap (λ k. tabulate k g) (sym (add-one j)))

-- all are
pub home_all : (n j : ℕ) → j ≡ n → home_to n j ≡ padded most_ports 0 (home n)
unfolding home
home_all n j e = rw e
