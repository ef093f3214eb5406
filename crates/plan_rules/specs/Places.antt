-- A plan in places, the first ones of arrays for the most legs: the places of a plan, and the plan that places hold.
-- Assumes nothing.
use Rattle.std.specs.Prelude.{ℕ, zero, suc, List, [], ◌∷◌, map, ℤ, pos, length}
use Rattle.promise.specs.Plan.{Leg}
use Rattle.words.specs.Told.{Told, accepted, refused}
use Rattle.words.specs.Padded.{padded}
use Rattle.words.specs.Signs.{by_sign, with_sign}
use Rattle.plan_rules.specs.Planned.{Planned, run_of, leg_by}
use Rattle.plan_rules.specs.declared.Plan.{Plan}

-- ---- the places of a plan

-- the places of a plan, the most legs being `most`
unfoldable pub placed : ℕ → Planned → Plan
placed most p =
    record {
      ports = p.ports;
      legs = length p.legs;
      starts = padded most 0 (map (λ l. l.start) p.legs);
      runs = padded most (pos 0) (map (λ l. with_sign (run_of l)) p.legs);
    }

-- what is held after a text was read: the plan, or all zeros if it was refused
abbrev pub held_of : ℕ → Told Planned → Plan
held_of most (accepted p) = placed most p
held_of most (refused k s) = placed most (record { ports = 0; legs = [] })

-- ---- the plan that places hold

-- a leg by a start and a run with its sign
abbrev pub leg_held : ℕ → ℤ → Leg
leg_held start z = leg_by start (by_sign z)

-- the first k legs
unfoldable pub legs_held : ℕ → List ℕ → List ℤ → List Leg
legs_held zero starts runs = []
legs_held (suc k) [] runs = []
legs_held (suc k) (s ∷ starts) [] = []
legs_held (suc k) (s ∷ starts) (r ∷ runs) = leg_held s r ∷ legs_held k starts runs

abbrev pub planned_of : Plan → Planned
planned_of p = record { ports = p.ports; legs = legs_held p.legs p.starts p.runs }
