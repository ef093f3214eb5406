-- Inside a block: relations (7) and (8) of document 000, with the row i = n-2 as the list has it.
-- From A(i) of the last pattern one goes by the closing move to A(i) of home, by one swap to B(i) of home, and by the closing move back to B(i) of the
-- last pattern; each row of the table is what remains of these three orders.
-- Assumes nothing.
use mathlib.Core.Path.{◌≡◌, refl, sym, ap, ◌∙◌}
use mathlib.Core.Logic.{◌≢◌}
use mathlib.Core.Bool.{Bool, true, false, not}
use mathlib.Core.List.{List, [], ◌∷◌}
use Prim.Native.Nat.{ℕ, zero, suc, ◌-◌, ◌≤◌, ◌<◌}
use native.Mathlib.Omega.{arith}
use lib.ListN.{length}
use Rattle.listing.specs.Numbers.{Among, is, trade, raise, lower, odd}
use Rattle.listing.specs.Pattern.{tabulate}
use Rattle.listing.specs.Steps.{step_a, step_b}
use Rattle.listing.specs.Ends.{home, last}
use Rattle.listing.specs.Orders.{Order, swap, turn, source, carry, carry_all, Move, one, two, moved, InForm, Leads, inverse, raised}
use Rattle.listing.specs.Joins.{join, join4, closing}
use Rattle.listing.proofs.Numbers.{either, below?, same?, raise-low, raise-high, odd-next, odd-two}
use Rattle.listing.proofs.Renamed.{EachOf, on, plain, same-orders}
use Rattle.listing.proofs.StepEntries.{length-a}
use Rattle.listing.proofs.Moves.{leads-back}
use Rattle.listing.proofs.Lifting.{leads-a, leads-b}
use Rattle.listing.proofs.Homes.{Holds, home-holds, home-holds-one, added, length-added, A-swap, B-turn}
use Rattle.listing.proofs.Rows.{join-one-odd, join-one-even, join-inner, join-third, join-second, join-top-odd, join-top-even}
use Rattle.listing.proofs.Hops.{closing-turn, closing-swap}
use Rattle.listing.proofs.Closing.{closing-leads}

-- ---- the three orders

-- A(i) of home becomes B(i) of home by the swap of jack i with the jack that holds i
home-join : (m i x : ℕ) → Among (suc m) i → x ≢ i → Holds (suc m) (home (suc m)) x i
    → carry (swap x i) (step_a (suc (suc m)) i (home (suc m))) ≡ step_b (suc (suc m)) i (home m)
unfolding carry_all carry plain tabulate source is
home-join m i x hi ne holds =
    let n : ℕ = suc (suc m) in
    let hx : Among (suc m) x = holds.among in
    ap (carry (swap x i)) (sym (A-swap m i x (home (suc m)) holds))
    ∙ same-orders n (x ∷ i ∷ n ∷ []) (omega arith) (swap 1 3 ∷ swap 1 2 ∷ []) (turn 1 2 3 ∷ []) (omega arith) (omega arith) refl
    (added n (home (suc m))) (length-added n (home (suc m)))
    ∙ B-turn m i x hi ne holds

-- n is k + 4, so that k, k₁, k₂, k₃ are the jacks n-4 to n-1
module _ (k : ℕ) (pos : 1 ≤ k) where
  abbrev pub n : ℕ
  n = suc (suc (suc (suc k)))

  abbrev pub k₁ : ℕ
  k₁ = suc k

  abbrev pub k₂ : ℕ
  k₂ = suc (suc k)

  abbrev pub k₃ : ℕ
  k₃ = suc (suc (suc k))

  abbrev pub from : ℕ → List ℕ
  from i = step_a n i (last k₃)

  abbrev pub to : ℕ → List ℕ
  to i = step_b n i (last k₂)

  -- block i of these: jack x of home holds i, and r, s, t are the jacks k, k₁, k₂ with room made for i
  record Place (i x r s t : ℕ) : Type 0 where
    block : Among k₃ i
    apart : x ≢ i
    holds : Holds k₃ (home k₃) x i
    third : raise i k ≡ r
    second : raise i k₁ ≡ s
    top : raise i k₂ ≡ t

  -- the three orders: the closing move for n - 1, the swap, the closing move for n - 2 backward and raised; for odd n and for even n
  abbrev three : Bool → ℕ → ℕ → ℕ → ℕ → ℕ → List Order
  three true x i r s t = swap k₁ k₃ ∷ swap x i ∷ turn r s t ∷ []
  three false x i r s t = turn k₁ k₃ k₂ ∷ swap x i ∷ swap r t ∷ []

  -- by the closing move, the swap, and the closing move back
  way-round : (i x : ℕ) → Among k₃ i → x ≢ i → Holds k₃ (home k₃) x i
      → moved (raised i (inverse (closing k₂))) (carry (swap x i) (moved (closing k₃) (from i))) ≡ to i
  way-round i x hi ne holds =
      let back : Move = raised i (inverse (closing k₂)) in
      ap (λ (p : List ℕ). moved back (carry (swap x i) p)) (leads-a k₂ i (closing-leads k₁)).makes
      ∙ ap (moved back) (home-join k₂ i x hi ne holds)
      ∙ (leads-b k₂ i hi (leads-back (closing-leads k))).makes

  -- they lead from A(i) to B(i)
  three-lead : (b : Bool) → odd n ≡ b → (i x r s t : ℕ) → Place i x r s t → carry_all (three b x i r s t) (from i) ≡ to i
  unfolding carry_all
  three-lead true b i x r s t here =
      let odd-m : odd k₂ ≡ true = sym (odd-two k₂) ∙ b in
      rw (closing-swap k₁ (omega arith) (odd-next k₂ ∙ ap not odd-m), closing-turn k pos odd-m, here.third, here.second, here.top)
      at (way-round i x here.block here.apart here.holds)
  three-lead false b i x r s t here =
      let even-m : odd k₂ ≡ false = sym (odd-two k₂) ∙ b in
      rw (closing-turn k₁ (omega arith) (odd-next k₂ ∙ ap not even-m), closing-swap k pos even-m, here.third, here.top)
      at (way-round i x here.block here.apart here.holds)

  -- so the table's row leads there if it does the same
  row : (b : Bool) → odd n ≡ b → (i x r s t : ℕ) → Place i x r s t → (v : Move) → join n i ≡ v → InForm n v
      → ((p : List ℕ) → length p ≡ n → carry_all (three b x i r s t) p ≡ moved v p) → Leads n (join n i) (from i) (to i)
  row b parity i x r s t here v is-v form same =
      let long : length (from i) ≡ n = length-a n i (last k₃) in
      rw is-v record { long = long; form = form; makes = sym (same (from i) long) ∙ three-lead b parity i x r s t here }

  -- the same for a row that does not ask whether n is odd
  row-both : (b : Bool) → odd n ≡ b → (i x r s t : ℕ) → Place i x r s t → (v : Move) → join n i ≡ v → InForm n v
      → ((p : List ℕ) → length p ≡ n → carry_all (three true x i r s t) p ≡ moved v p)
      → ((p : List ℕ) → length p ≡ n → carry_all (three false x i r s t) p ≡ moved v p) → Leads n (join n i) (from i) (to i)
  row-both true parity i x r s t here v is-v form same same' = row true parity i x r s t here v is-v form same
  row-both false parity i x r s t here v is-v form same same' = row false parity i x r s t here v is-v form same'

  -- ---- the rows of relation (8)

  -- the jacks as the table has them
  less : (n - 4 ≡ k) × (n - 3 ≡ k₁) × (n - 2 ≡ k₂) × (n - 1 ≡ k₃)
  less = omega arith

  -- port 1 of home is on its last jack, port h + 1 on jack h
  place-one : Place 1 k₃ k₁ k₂ k₃
  place-one =
      record {
        block = omega arith;
        apart = omega arith;
        holds = home-holds-one k₃ (omega arith);
        third = raise-high 1 k pos;
        second = raise-high 1 k₁ (omega arith);
        top = raise-high 1 k₂ (omega arith);
      }

  place-more : (h r s t : ℕ) → 1 ≤ h → h < k₃ → raise (suc h) k ≡ r → raise (suc h) k₁ ≡ s → raise (suc h) k₂ ≡ t → Place (suc h) h r s t
  place-more h r s t low high e f g =
      record { block = omega arith; apart = omega arith; holds = home-holds k₃ h low high; third = e; second = f; top = g }

  -- orders on the jacks k, k₁, k₂, k₃ in the place of 1, 2, 3, 4
  on-four : (os rs : List Order) → EachOf (Among 4) os → EachOf (Among 4) rs → carry_all os (plain 4) ≡ carry_all rs (plain 4)
      → (p : List ℕ) → length p ≡ n → carry_all (on (k ∷ k₁ ∷ k₂ ∷ k₃ ∷ []) os) p ≡ carry_all (on (k ∷ k₁ ∷ k₂ ∷ k₃ ∷ []) rs) p
  on-four = same-orders n (k ∷ k₁ ∷ k₂ ∷ k₃ ∷ []) (omega arith)

  -- i = 1
  pub row_one : (b : Bool) → odd n ≡ b → Leads n (join n 1) (from 1) (to 1)
  unfolding carry_all carry plain tabulate source is
  row_one true b =
      row true b 1 k₃ k₁ k₂ k₃ place-one (one (turn 1 k₁ k₂)) (join-one-odd n 1 (omega arith) refl b ∙ rw (less.1, less.2)) (omega arith)
      (same-orders n (1 ∷ k₁ ∷ k₂ ∷ k₃ ∷ []) (omega arith)
      (swap 2 4 ∷ swap 4 1 ∷ turn 2 3 4 ∷ []) (turn 1 2 3 ∷ []) (omega arith) (omega arith) refl)
  row_one false b =
      row false b 1 k₃ k₁ k₂ k₃ place-one (one (turn 1 k₂ k₁)) (join-one-even n 1 (omega arith) refl b ∙ rw (less.1, less.2)) (omega arith)
      (same-orders n (1 ∷ k₁ ∷ k₂ ∷ k₃ ∷ []) (omega arith)
      (turn 2 4 3 ∷ swap 4 1 ∷ swap 2 4 ∷ []) (turn 1 3 2 ∷ []) (omega arith) (omega arith) refl)

  -- i from 2 to n-4, as h + 1
  pub row-inner : (b : Bool) → odd n ≡ b → (h : ℕ) → 1 ≤ h → h < k → Leads n (join n (suc h)) (from (suc h)) (to (suc h))
  unfolding carry_all carry plain tabulate source is
  row-inner b parity h low high =
      let i : ℕ = suc h in
      let before-i : i - 1 ≡ h = omega arith in
      row-both b parity i h k₁ k₂ k₃
      (place-more h k₁ k₂ k₃ low (omega arith) (raise-high i k (omega arith)) (raise-high i k₁ (omega arith)) (raise-high i k₂ (omega arith)))
      (two h i k₁ k₂) (join-inner n i (omega arith) (omega arith) (omega arith) ∙ rw (before-i, less.1, less.2)) (omega arith)
      (same-orders n (h ∷ i ∷ k₁ ∷ k₂ ∷ k₃ ∷ []) (omega arith)
      (swap 3 5 ∷ swap 1 2 ∷ turn 3 4 5 ∷ []) (swap 1 2 ∷ swap 3 4 ∷ []) (omega arith) (omega arith) refl)
      (same-orders n (h ∷ i ∷ k₁ ∷ k₂ ∷ k₃ ∷ []) (omega arith)
      (turn 3 5 4 ∷ swap 1 2 ∷ swap 3 5 ∷ []) (swap 1 2 ∷ swap 3 4 ∷ []) (omega arith) (omega arith) refl)

  -- i = n-3
  pub row-third : (b : Bool) → odd n ≡ b → Leads n (join n k₁) (from k₁) (to k₁)
  unfolding carry_all carry plain tabulate source is
  row-third b parity =
      row-both b parity k₁ k k k₂ k₃
      (place-more k k k₂ k₃ pos (omega arith) (raise-low k₁ k (omega arith)) (raise-high k₁ k₁ (omega arith)) (raise-high k₁ k₂ (omega arith)))
      (one (turn k k₂ k₁)) (join-third n k₁ (omega arith) (omega arith) ∙ rw (less.0, less.1, less.2)) (omega arith)
      (on-four (swap 2 4 ∷ swap 1 2 ∷ turn 1 3 4 ∷ []) (turn 1 3 2 ∷ []) (omega arith) (omega arith) refl)
      (on-four (turn 2 4 3 ∷ swap 1 2 ∷ swap 1 4 ∷ []) (turn 1 3 2 ∷ []) (omega arith) (omega arith) refl)

  -- i = n-2
  pub row-second : (b : Bool) → odd n ≡ b → Leads n (join n k₂) (from k₂) (to k₂)
  unfolding carry_all carry plain tabulate source is
  row-second b parity =
      row-both b parity k₂ k₁ k k₁ k₃
      (place-more k₁ k k₁ k₃ (omega arith) (omega arith) (raise-low k₂ k (omega arith)) (raise-low k₂ k₁ (omega arith)) (raise-high k₂ k₂ (omega arith)))
      (one (turn k k₂ k₃)) (join-second n k₂ (omega arith) (omega arith) ∙ rw (less.0, less.2, less.3)) (omega arith)
      (on-four (swap 2 4 ∷ swap 2 3 ∷ turn 1 2 4 ∷ []) (turn 1 3 4 ∷ []) (omega arith) (omega arith) refl)
      (on-four (turn 2 4 3 ∷ swap 2 3 ∷ swap 1 4 ∷ []) (turn 1 3 4 ∷ []) (omega arith) (omega arith) refl)

  place-top : Place k₃ k₂ k k₁ k₂
  place-top =
      place-more k₂ k k₁ k₂ (omega arith) (omega arith) (raise-low k₃ k (omega arith)) (raise-low k₃ k₁ (omega arith)) (raise-low k₃ k₂ (omega arith))

  -- i = n-1
  pub row-top : (b : Bool) → odd n ≡ b → Leads n (join n k₃) (from k₃) (to k₃)
  unfolding carry_all carry plain tabulate source is
  row-top true b =
      row true b k₃ k₂ k k₁ k₂ place-top
      (one (turn k k₃ k₂)) (join-top-odd n k₃ (omega arith) (omega arith) b ∙ rw (less.0, less.2, less.3)) (omega arith)
      (on-four (swap 2 4 ∷ swap 3 4 ∷ turn 1 2 3 ∷ []) (turn 1 4 3 ∷ []) (omega arith) (omega arith) refl)
  row-top false b =
      row false b k₃ k₂ k k₁ k₂ place-top
      (two k k₂ k₁ k₃) (join-top-even n k₃ (omega arith) (omega arith) b ∙ rw (less.0, less.1, less.2, less.3)) (omega arith)
      (on-four (turn 2 4 3 ∷ swap 3 4 ∷ swap 1 3 ∷ []) (swap 1 3 ∷ swap 2 4 ∷ []) (omega arith) (omega arith) refl)
