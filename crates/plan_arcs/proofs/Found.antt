-- What the two loops over the gaps keep, over plain numbers and lists: `Counting` where they are counted, `Writing` where they are written. Both look for the next gap
-- from rank x on, and both end where there is none. At the end, of a plan within the rules, what was found is what the plan leaves.
-- Assumes nothing.
use mathlib.Core.Path.{◌≡◌, refl, sym, ap, subst, ◌∙◌}
use mathlib.Core.List.{List, [], ◌∷◌, ◌++◌}
use Prim.Native.Nat.{ℕ, suc, ◌+◌, ◌-◌, ◌≤◌, ◌<◌}
use native.Mathlib.Numerals.{add-one}
use native.Mathlib.Omega.{arith}
use lib.ListN.{length, drop, set, length-set, length-map}
use lib.Seq.{sets, sets-eq}
use Rattle.listing.specs.Count.{count}
use Rattle.listing.specs.Limits.{most_legs}
use Rattle.words.specs.Padded.{padded}
use Rattle.line_format.specs.Calls.{over}
use Rattle.promise.specs.Derangements.{derangements}
use Rattle.promise_arcs.specs.Gaps.{Arc, total}
use Rattle.promise_arcs.specs.Named.{many_named, numbers}
use Rattle.promise_arcs.specs.Finding.{arc_of, nearest, openings, lowest, gaps_on, gaps_between}
use Rattle.promise_arcs.proofs.Finding.{next, few-gaps}
use Rattle.promise_arcs.proofs.Loops.{on-found, on_none, lowest-padded}
use Rattle.promise_arcs.proofs.Named.{found-on, named-on}
use Rattle.plan_rules.specs.Planned.{device}
use Rattle.plan_rules.specs.Rules.{legs_of, Ruled}
use Rattle.plan_rules.specs.declared.Plan.{Plan}
use Rattle.plan_arcs.specs.Arcs.{arcs_of, gaps_in, Tallies}
use Rattle.plan_arcs.specs.declared.gaps.Tally.{Tally}
use Rattle.plan_arcs.proofs.Arcs.{fits-ruled}

module _ (c : ℕ) (As : List Arc) where
  -- the first rank of the next gap, by the places where gaps begin
  pub next-is : (most : ℕ) (u : List ℕ) (x e : ℕ) → u ≡ padded most c (openings c As) → e ≡ lowest c x u → e ≡ next c As x
  next-is most u x e q f = f ∙ ap (lowest c x) q ∙ lowest-padded c x (most - length (openings c As)) (openings c As)

  -- ---- counting

  -- the gaps before rank x are counted, and their ranks taken off the circuit's
  pub record Counting (left gaps x : ℕ) : Type 0 where
    pub ranks : left + total (gaps_between c As) ≡ c + total (gaps_on c As x)
    pub many : gaps + length (gaps_on c As x) ≡ length (gaps_between c As)

  pub counting-none : Counting c 0 0
  counting-none = record { ranks = refl; many = omega arith }

  -- all are
  pub counted : (left gaps x : ℕ) → Counting left gaps x → c ≤ next c As x → (left + total (gaps_between c As) ≡ c) × (gaps ≡ length (gaps_between c As))
  unfolding total
  counted left gaps x C h =
      let none : gaps_on c As x ≡ [] = on_none c As x h in (omega (arith, C.ranks, ap total none), omega (arith, C.many, ap length none))

  -- one more is
  module _ (left gaps x n : ℕ) (C : Counting left gaps x) (h : next c As x < c) (near : n ≡ nearest c As (next c As x)) where
    abbrev after : List Arc
    after = gaps_on c As (next c As x + 1)

    here : (total (gaps_on c As x) ≡ n + total after) × (length (gaps_on c As x) ≡ suc (length after))
    unfolding total
    here =
        let e = on-found c As x h ∙ ap (λ y. record { first = next c As x; many = nearest c As (next c As x) } ∷ gaps_on c As y) (sym (add-one (next c As x))) in
        (ap total e ∙ ap (λ k. k + total after) (sym near), ap length e)

    pub takes-off : total (gaps_between c As) ≤ c → n ≤ left
    takes-off fits = omega (arith, C.ranks, here.0)

    pub counts-on : gaps + 1 ≤ length (gaps_between c As)
    counts-on = omega (arith, C.many, here.1)

    pub counting_more : total (gaps_between c As) ≤ c → Counting (left - n) (gaps + 1) (next c As x + 1)
    counting_more fits = record { ranks = omega (arith, C.ranks, here.0); many = omega (arith, C.many, here.1) }

  -- ---- writing

  -- the gaps before rank x are written at the front of `old`, `at` numbers in all: with the rest put behind them it is as it has to be
  pub record Writing (old out : List ℕ) (at x : ℕ) : Type 0 where
    pub room : at + length (numbers (gaps_on c As x)) ≤ length out
    pub comes : sets out at (numbers (gaps_on c As x)) ≡ over (numbers (gaps_between c As)) old

  pub writing-none : (old : List ℕ) → length (numbers (gaps_between c As)) ≤ length old → Writing old old 0 0
  writing-none old h =
      let N : List ℕ = numbers (gaps_between c As) in
      let all : 0 + length N ≡ length N = omega arith in
      record { room = omega arith; comes = sets-eq N old 0 (omega arith) ∙ ap (λ k. N ++ drop k old) all }

  -- all are
  pub written : (old out : List ℕ) (at x : ℕ) → Writing old out at x → c ≤ next c As x → out ≡ over (numbers (gaps_between c As)) old
  unfolding numbers
  written old out at x W h = sym (ap (λ Xs. sets out at (numbers Xs)) (on_none c As x h)) ∙ W.comes

  -- one more is
  module _ (old out : List ℕ) (at x n : ℕ) (W : Writing old out at x) (h : next c As x < c) (near : n ≡ nearest c As (next c As x)) where
    coming : numbers (gaps_on c As x) ≡ next c As x ∷ n ∷ numbers (gaps_on c As (next c As x + 1))
    unfolding numbers
    coming =
        ap numbers (on-found c As x h)
        ∙ ap (λ y. next c As x ∷ nearest c As (next c As x) ∷ numbers (gaps_on c As y)) (sym (add-one (next c As x)))
        ∙ ap (λ k. next c As x ∷ k ∷ numbers (gaps_on c As (next c As x + 1))) (sym near)

    pub room-two : at + 1 < length out
    room-two = omega (arith, W.room, ap length coming)

    pub writing_more : Writing old (set (set out at (next c As x)) (at + 1) n) (at + 2) (next c As x + 1)
    writing_more =
        let two : at + 2 ≡ suc (suc at) = omega arith in
        record {
          room = omega (arith, W.room, ap length coming, length-set (set out at (next c As x)) (at + 1) n, length-set out at (next c As x));
          comes =
              ap (λ k. sets (set (set out at (next c As x)) (at + 1) n) k (numbers (gaps_on c As (next c As x + 1)))) two
              ∙ ap (λ k. sets (set (set out at (next c As x)) k n) (suc (suc at)) (numbers (gaps_on c As (next c As x + 1)))) (add-one at)
              ∙ sym (ap (sets out at) coming) ∙ W.comes;
        }

-- ---- of a plan within the rules

module _ (p : Plan) (c : ℕ) (size : c ≡ count p.ports) (R : Ruled device p) where
  -- the gaps are those that are found
  left-found : gaps_in p ≡ gaps_between c (arcs_of c p)
  left-found =
      found-on p.ports R.fits.few_ports (legs_of p) R.fits.few_legs (fits-ruled (count p.ports) (legs_of p) R.fits.each)
      ∙ ap (λ k. gaps_between k (arcs_of k p)) (sym size)

  pub gaps-are : numbers (gaps_in p) ≡ numbers (gaps_between c (arcs_of c p))
  gaps-are = ap numbers left-found

  whole : many_named (derangements p.ports) (legs_of p) + total (gaps_between c (arcs_of c p)) ≡ c
  whole =
      subst (λ k. many_named (derangements p.ports) (legs_of p) + total (gaps_between k (arcs_of k p)) ≡ k) (sym size)
      (named-on p.ports R.fits.few_ports (legs_of p) R.fits.few_legs (fits-ruled (count p.ports) (legs_of p) R.fits.each))

  -- they have no more ranks than the circuit, and are no more than the most legs
  pub ranks-fit : total (gaps_between c (arcs_of c p)) ≤ c
  ranks-fit = omega (arith, whole)

  pub gaps-few : length (gaps_between c (arcs_of c p)) ≤ most_legs
  gaps-few = omega (arith, few-gaps c (arcs_of c p), length-map (legs_of p) (arc_of c), R.fits.many_legs)

  -- what was counted is told
  pub tallies : (t : Tally) → (t.named + total (gaps_between c (arcs_of c p)) ≡ c) × (t.gaps ≡ length (gaps_between c (arcs_of c p))) → Tallies p t
  tallies t w = record {
    named = omega (arith, whole, w.0);
    gaps = w.1 ∙ sym (ap length left-found);
  }

-- a plan within the rules leaves no more gaps than the most legs
pub left-few : (p : Plan) → Ruled device p → length (gaps_in p) ≤ most_legs
left-few p R = omega (arith, ap length (left-found p (count p.ports) refl R), gaps-few p (count p.ports) refl R)
