-- A plan that fits, in its places: they are within the rules.
-- Assumes nothing.
use mathlib.Core.Path.{◌≡◌, sym, subst}
use mathlib.Core.Bool.{true}
use mathlib.Core.List.{List, map}
use Prim.Native.Nat.{ℕ, ◌≤◌}
use native.Mathlib.Omega.{arith}
use lib.IntN.{ℤ, pos}
use lib.ListN.{length, length-map}
use Rattle.listing.specs.Limits.{most_legs}
use Rattle.words.specs.Signs.{with_sign}
use Rattle.words.proofs.Padded.{padded-beyond}
use Rattle.plan_rules.specs.Planned.{Planned, run_of, Fits, device}
use Rattle.plan_rules.specs.Places.{placed}
use Rattle.plan_rules.specs.Rules.{plan_ruled}
use Rattle.plan_rules.proofs.Held.{held-planned, held-places}
use Rattle.plan_rules.proofs.Rules.{tells-ruled}

-- the places of a plan that fits are within the rules
pub held-ruled : (p : Planned) → Fits device p → plan_ruled device (placed most_legs p) ≡ true
unfolding placed
held-ruled p f =
    let starts : List ℕ = map (λ l. l.start) p.legs in
    let runs : List ℤ = map (λ l. with_sign (run_of l)) p.legs in
    let few : length p.legs ≤ most_legs = f.many_legs in
    let a : length starts ≡ length p.legs = length-map p.legs (λ l. l.start) in
    let b : length runs ≡ length p.legs = length-map p.legs (λ l. with_sign (run_of l)) in
    let places = held-places most_legs p few in
    (tells-ruled device (placed most_legs p) places.0 places.1).1 (record {
      fits = subst (Fits device) (sym (held-planned device most_legs p f)) f;
      legs = few;
      starts = λ i h k. padded-beyond most_legs 0 starts i (omega arith);
      runs = λ i h k. padded-beyond most_legs (pos 0) runs i (omega arith);
    })
