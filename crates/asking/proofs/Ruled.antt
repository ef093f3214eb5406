-- The places of a plan that fits hold its legs (`held-legs`) and its marks (`held-marks`). At the front, whether something was accepted.
-- Assumes nothing.
use mathlib.Core.Path.{◌≡◌, ap, ◌∙◌}
use lib.ListN.{length, take}
use lib.Seq.{take-length}
use Rattle.listing.specs.Limits.{most_legs}
use Rattle.promise.specs.Plan.{marks}
use Rattle.words.specs.Told.{Told, accepted, then}
use Rattle.plan_rules.specs.Planned.{Planned, Fits, device}
use Rattle.plan_rules.specs.Places.{placed}
use Rattle.plan_rules.specs.Rules.{legs_of}
use Rattle.plan_rules.proofs.Held.{held-planned}

-- ---- what is told

-- whether something was accepted, or the refusal
abbrev pub judged : {A : Type 0} → Told A → Told (Unit {0})
judged told = then told (λ a. accepted tt)

-- ---- a plan that fits, in its places

module _ (p : Planned) (f : Fits device p) where
  -- with its legs
  pub held-legs : legs_of (placed most_legs p) ≡ p.legs
  held-legs = ap (λ q. q.legs) (held-planned device most_legs p f)

  -- and so with its marks
  pub held-marks : marks (take (placed most_legs p).legs (legs_of (placed most_legs p))) ≡ marks p.legs
  unfolding placed
  held-marks = ap (λ ls. marks (take (length p.legs) ls)) held-legs ∙ ap marks (take-length p.legs)
