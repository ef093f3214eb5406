-- The marks of the first legs: one leg more, the number of a mark, and that they are few enough to count.
-- Assumes nothing.
use mathlib.Core.Path.{◌≡◌, refl, sym, ap, subst, ◌∙◌}
use mathlib.Core.List.{List, [], ◌∷◌}
use Prim.Native.Nat.{ℕ, zero, suc, ◌+◌, ◌*◌, ◌≤◌, ◌<◌}
use native.Mathlib.Nat.{le_trans, mul-le-mul, mul-le-mul_right}
use native.Mathlib.Numerals.{add-one}
use native.Mathlib.Omega.{arith}
use lib.ListN.{length, take}
use lib.Seq.{take-length}
use Rattle.promise.specs.Plan.{Leg, leg_at, marks, number}
use Rattle.listing.specs.Count.{count}
use Rattle.listing.specs.Limits.{most_legs, largest64}
use Rattle.listing.proofs.Counts.{count-grows}
use Rattle.listing.proofs.Limits.{count_most}
use Rattle.plan_rules.specs.Planned.{Planned, Limits, device, EachFits, Fits}
use Rattle.plan_rules.specs.declared.Plan.{Plan}
use Rattle.plan_rules.specs.Rules.{legs_of, Ruled}

-- one leg more
marks-next : (ls : List Leg) (i : ℕ) → i < length ls → marks (take (suc i) ls) ≡ marks (take i ls) + ((leg_at ls i).run + 1)
unfolding marks
marks-next [] i h = absurd (omega arith)
marks-next (l ∷ ls) zero h = omega arith
marks-next (l ∷ ls) (suc i) h = omega (arith, marks-next ls i (omega arith))

pub marks-more : (ls : List Leg) (i total run : ℕ) → i < length ls → total ≡ marks (take i ls) → run ≡ (leg_at ls i).run
    → total + (run + 1) ≡ marks (take (i + 1) ls)
marks-more ls i total run h e f = rw (e, f, add-one i) (sym (marks-next ls i h))

-- no leg has no marks
pub marks-none : (ls : List Leg) → 0 ≡ marks (take 0 ls)
unfolding marks
marks-none ls = refl

-- the number of a mark is the marks of the legs before, and its step
pub number-before : (ls : List Leg) (i k : ℕ) → i < length ls → number ls i k ≡ marks (take i ls) + k
unfolding marks number
number-before [] i k h = absurd (omega arith)
number-before (l ∷ ls) zero k h = omega arith
number-before (l ∷ ls) (suc i) k h = omega (arith, number-before ls i k (omega arith))

-- all legs together
pub marks-all : (ls : List Leg) (i : ℕ) → i ≡ length ls → marks (take i ls) ≡ marks ls
marks-all ls i e = ap (λ j. marks (take j ls)) e ∙ ap marks (take-length ls)

-- of legs among `size` ranks the first i have at most i times as many marks
pub marks-few : (size : ℕ) (ls : List Leg) → EachFits size ls → (i : ℕ) → marks (take i ls) ≤ i * size
unfolding marks
marks-few size ls fits zero = omega arith
marks-few size [] fits (suc i) = omega arith
marks-few size (l ∷ ls) fits (suc i) = omega (arith, fits.0.run, marks-few size ls fits.1 i)

-- no count of fewer ports, from 1 on, is larger
pub count-within : (n most : ℕ) → 1 ≤ n → n ≤ most → count n ≤ count most
count-within zero most h l = absurd (omega arith)
count-within (suc m) most h l = count-grows m most l

-- a plan that fits has at most the most legs times the count of the most ports
pub marks-bounded : (most : Limits) (p : Planned) → Fits most p → marks p.legs ≤ most.legs * count most.ports
marks-bounded most p h =
    le_trans (subst (λ ls. marks ls ≤ length p.legs * count p.ports) (take-length p.legs) (marks-few (count p.ports) p.legs h.each (length p.legs)))
    (mul-le-mul h.many_legs (count-within p.ports most.ports (omega (arith, h.few_ports)) h.many_ports))

-- they fit 64 bits on the device
pub marks-fit : (p : Plan) → Ruled device p → (i : ℕ) → i ≤ most_legs → marks (take i (legs_of p)) ≤ largest64
marks-fit p R i h =
    let few : marks (take i (legs_of p)) ≤ i * count p.ports = marks-few (count p.ports) (legs_of p) R.fits.each i in
    let most : count p.ports ≤ 895014631192902121 = count_most p.ports R.fits.many_ports in
    let all : i * count p.ports ≤ 16 * count p.ports = mul-le-mul_right (count p.ports) h in
    omega arith
