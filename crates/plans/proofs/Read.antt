-- What a text that was accepted is: a plan that fits, and the places that hold it are within the rules.
-- Assumes nothing.
use mathlib.Core.Path.{◌≡◌, sym, ap, ◌∙◌}
use mathlib.Core.Bool.{true}
use mathlib.Core.List.{List}
use Prim.Native.Nat.{ℕ}
use Rattle.listing.specs.Limits.{most_legs}
use Rattle.words.specs.Told.{accepted, then}
use Rattle.words.proofs.Told.{accepted-gives}
use Rattle.plan_rules.specs.Planned.{Planned, Fits, device}
use Rattle.plan_rules.specs.Places.{placed, held_of, planned_of}
use Rattle.plan_rules.specs.Rules.{plan_ruled}
use Rattle.plan_rules.specs.declared.Plan.{Plan}
use Rattle.plan_rules.proofs.Held.{held-planned}
use Rattle.plan_rules.proofs.Within.{held-ruled}
use Rattle.plans.specs.Calls.{read_plan_of}
use Rattle.plans.proofs.Plans.{accepted-fits}

-- a text was accepted
abbrev pub Taken : List ℕ → Type 0
Taken t = accepted (tt {0}) ≡ then (read_plan_of t) (λ p. accepted (tt {0}))

module _ (t : List ℕ) where
  module _ (ok : Taken t) where
    -- it is a plan
    pub read-plan-is : (p : Planned) × (read_plan_of t ≡ accepted p)
    read-plan-is = accepted-gives (read_plan_of t) (λ p. tt) tt ok

    -- which fits
    pub read_fits : Fits device read-plan-is.0
    read_fits = (accepted-fits device 1 t read-plan-is.0 read-plan-is.1).0

  module _ (plan : Plan) (ok : Taken t) (e : plan ≡ held_of most_legs (read_plan_of t)) where
    -- the places are that plan's
    pub read-places : plan ≡ placed most_legs (read-plan-is ok).0
    read-places = e ∙ ap (held_of most_legs) (read-plan-is ok).1

    -- they are within the rules
    pub read-ruled : plan_ruled device plan ≡ true
    read-ruled = ap (plan_ruled device) read-places ∙ held-ruled (read-plan-is ok).0 (read_fits ok)

    -- and they hold it
    pub read-planned : read_plan_of t ≡ accepted (planned_of plan)
    read-planned = (read-plan-is ok).1 ∙ ap accepted (sym (ap planned_of read-places ∙ held-planned device most_legs (read-plan-is ok).0 (read_fits ok)))
