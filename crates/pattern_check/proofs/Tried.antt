-- What the check tells of some patterns and panels: one table and one theorem.
-- Assumes nothing.
use mathlib.Core.Path.{◌≡◌, refl}
use mathlib.Core.Bool.{true, false}
use mathlib.Core.List.{List, [], ◌∷◌, map}
use Prim.Native.Nat.{ℕ}
use Rattle.listing.specs.Limits.{most_ports}
use Rattle.words.specs.Told.{Told, accepted, refused, nowhere, at_jack, at_jacks}
use Rattle.pattern_check.specs.Faults.{seek, fault_at, fault_from}
use Rattle.pattern_check.specs.Calls.{in_size, sized, check_as}

-- ports at jacks from 1 on, with what is told of them as a pattern, and as a panel
pub record Case : Type 0 where
  pub ports : List ℕ
  pub pattern : Told (Unit {0})
  pub panel : Told (Unit {0})

abbrev pub cases : List Case
cases =
    record { ports = 2 ∷ 1 ∷ []; pattern = accepted tt; panel = accepted tt }
    ∷ record { ports = 1 ∷ []; pattern = refused 1 nowhere; panel = refused 1 nowhere }
    ∷ record { ports = 0 ∷ 1 ∷ []; pattern = refused 3 (at_jack 1); panel = refused 3 (at_jack 1) }
    -- a repeated port, with the jack that holds it first
    ∷ record { ports = 2 ∷ 2 ∷ []; pattern = refused 4 (at_jacks 2 1); panel = refused 4 (at_jacks 2 1) }
    ∷ record { ports = 2 ∷ 3 ∷ 4 ∷ 5 ∷ 3 ∷ []; pattern = refused 4 (at_jacks 5 2); panel = refused 4 (at_jacks 5 2) }
    -- three equal entries: the second of them is at fault
    ∷ record { ports = 3 ∷ 4 ∷ 1 ∷ 1 ∷ 1 ∷ []; pattern = refused 4 (at_jacks 4 3); panel = refused 4 (at_jacks 4 3) }
    -- a port at its own jack is a pattern's fault, and not a panel's
    ∷ record { ports = 2 ∷ 1 ∷ 3 ∷ []; pattern = refused 5 (at_jack 3); panel = accepted tt }
    ∷ record { ports = 1 ∷ 3 ∷ 1 ∷ []; pattern = refused 5 (at_jack 1); panel = refused 4 (at_jacks 3 1) }
    ∷ []

pub cases-hold : (map (λ c. check_as true most_ports c.ports) cases ≡ map (λ c. c.pattern) cases)
    × (map (λ c. check_as false most_ports c.ports) cases ≡ map (λ c. c.panel) cases)
unfolding check_as sized in_size fault_from fault_at seek
cases-hold = (refl, refl)
