-- What a plan names and leaves, of every family that is a circuit (`plan-right`) and of the list of document 000 (`right-on`): what is told is right, and what is
-- found without a walk is what is told (`found-on`, `named-on`).
-- Assumes nothing.
use mathlib.Core.Path.{◌≡◌, refl, sym, ap, subst, ◌∙◌}
use mathlib.Core.Logic.{inl, inr}
use mathlib.Core.List.{List, [], ◌∷◌, map}
use Prim.Native.Nat.{ℕ, suc, ◌+◌, ◌-◌, ◌*◌, ◌≤◌}
use native.Mathlib.Omega.{arith}
use lib.ListN.{length, length-map}
use Rattle.listing.specs.Count.{count}
use Rattle.listing.proofs.Numbers.{either, test}
use Rattle.promise.specs.Plan.{Family, Circuit, Leg}
use Rattle.promise.specs.Derangements.{derangements}
use Rattle.promise.proofs.Derangements.{circuit-on}
use Rattle.promise_arcs.specs.Gaps.{Arc, total, how_many, Gaps}
use Rattle.promise_arcs.specs.Named.{named, many_named, gaps_left, numbers, Right}
use Rattle.promise_arcs.specs.Finding.{arc_of, on_some, gaps_between}
use Rattle.promise_arcs.proofs.Only.{by-rank, by-neighbours, gaps-found-so, only-gaps, longest, same-gaps}
use Rattle.promise_arcs.proofs.Sums.{named-off, whole-circuit}
use Rattle.promise_arcs.proofs.Finding.{gaps-found, few-gaps}
use Rattle.promise_arcs.proofs.Legs.{tells-named, Ruled, plan-arcs, arcs-fit}

-- ---- any circuit

module _ (F : Family) (circuit : Circuit F) (legs : List Leg) (some : 1 ≤ length legs) (ruled : Ruled F.size legs) where
  abbrev c : ℕ
  c = F.size

  -- what is found between the arcs of the legs
  abbrev found : List Arc
  found = gaps_between c (map (arc_of c) legs)

  -- is the gaps that the plan leaves
  found-gaps : Gaps c (named F legs) found
  found-gaps = by legs some ruled
    where
      by : (ls : List Leg) → 1 ≤ length ls → Ruled c ls → Gaps c (named F ls) (gaps_between c (map (arc_of c) ls))
      by [] s R = absurd (omega arith)
      by (l ∷ ls) s R =
          same-gaps c (on_some c (map (arc_of c) (l ∷ ls))) (named F (l ∷ ls)) (gaps_between c (map (arc_of c) (l ∷ ls)))
          (λ r h. sym (plan-arcs F circuit (l ∷ ls) R r h)) (gaps-found c (arc_of c l) (map (arc_of c) ls) (arcs-fit c (l ∷ ls) R))

  pub found_left : gaps_left F legs ≡ found
  unfolding gaps_left
  found_left = gaps-found-so c (named F legs) found found-gaps

  pub left-gaps : Gaps c (named F legs) (gaps_left F legs)
  left-gaps = subst (Gaps c (named F legs)) (sym found_left) found-gaps

  -- named ranks and gap ranks together are the whole circuit
  pub left-whole : many_named F legs + total (gaps_left F legs) ≡ c
  unfolding many_named
  left-whole = whole-circuit c (named F legs) (gaps_left F legs) left-gaps

  -- what is told of the plan is right
  pub plan-right : Right F legs (many_named F legs) (gaps_left F legs)
  unfolding many_named
  plan-right =
      let L : Gaps c (named F legs) (gaps_left F legs) = left-gaps in
      record {
        names = tells-named F legs;
        once = refl;
        gaps = L;
        only = λ Bs K. only-gaps c (named F legs) Bs (gaps_left F legs) K L;
        longest = longest c (named F legs) (gaps_left F legs) L;
        either = λ r h.
            either (test (named F legs r))
            (λ e. inl (e, named-off c (named F legs) (gaps_left F legs) L r h e))
            (λ e. let w = L.all r h e in
            inr (e, record { arc = w.0; among = w.1; on = w.2; only = λ B i o. by-rank c (named F legs) B w.0 (L.each B i) (L.each w.0 w.1) r h o w.2 }));
        through = λ r h A B i j x y. by-neighbours c (named F legs) A B (L.each A i) (L.each B j) r h x y;
        whole = left-whole;
        few = omega (arith, ap length found_left, few-gaps c (map (arc_of c) legs), length-map legs (arc_of c));
      }

-- ---- the list of document 000

pub right-on : (n : ℕ) → 2 ≤ n → (legs : List Leg) → 1 ≤ length legs → Ruled (count n) legs
    → Right (derangements n) legs (many_named (derangements n) legs) (gaps_left (derangements n) legs)
unfolding derangements
right-on n h legs some R = plan-right (derangements n) (circuit-on n h) legs some R

module _ (n : ℕ) (two : 2 ≤ n) (legs : List Leg) (some : 1 ≤ length legs) (R : Ruled (count n) legs) where
  -- the gaps are those that are found between the arcs of the legs
  pub found-on : gaps_left (derangements n) legs ≡ gaps_between (count n) (map (arc_of (count n)) legs)
  unfolding derangements
  found-on = found_left (derangements n) (circuit-on n two) legs some R

  -- and the ranks that are named are those that they leave
  pub named-on : many_named (derangements n) legs + total (gaps_between (count n) (map (arc_of (count n)) legs)) ≡ count n
  unfolding derangements
  named-on = subst (λ As. many_named (derangements n) legs + total As ≡ count n) found-on (left-whole (derangements n) (circuit-on n two) legs some R)

-- ---- in numbers

-- two numbers for each gap
pub length-numbers : (As : List Arc) → length (numbers As) ≡ 2 * length As
unfolding numbers
length-numbers [] = refl
length-numbers (A ∷ As) = omega (arith, length-numbers As)
