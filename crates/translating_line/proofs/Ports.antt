-- What is concluded of a line of ports, from the number that was read (`no-ports`, `few-ports`, `many-ports`, `ports-said`); it prints nothing (`ports-silent`).
-- Assumes nothing.
use mathlib.Core.Path.{◌≡◌, refl, sym}
use mathlib.Core.Bool.{Bool, true, false, cond}
use mathlib.Core.List.{List, []}
use mathlib.Core.Option.{Option, none, some}
use Prim.Native.Nat.{ℕ, ◌≤◌, ◌<◌}
use Rattle.listing.specs.Limits.{most_ports, largest64}
use Rattle.words.specs.Told.{Told, accepted, refused, nowhere, then, need}
use Rattle.text_numbers.specs.Decimal.{number_up_to}
use Rattle.pattern_check.specs.Calls.{in_size, sized}
use Rattle.pattern_check.proofs.Calls.{too_few, too_many, fits}
use Rattle.translating.specs.Lines.{Went, ports_of}
use Rattle.translating_line.specs.Answers.{text_in}

-- so many ports, and nothing printed
abbrev saying : ℕ → Told Went
saying m = accepted (record { ports = m; text = [] })

module _ (t : List ℕ) where
  pub no-ports : none ≡ number_up_to largest64 t → refused 8 nowhere ≡ ports_of t
  unfolding ports_of
  no-ports e = rw (← e)

  module _ (m : ℕ) (e : some m ≡ number_up_to largest64 t) where
    pub few-ports : m < 2 → refused 1 nowhere ≡ ports_of t
    unfolding ports_of
    few-ports h = rw (← e) (sym (too_few most_ports m (saying m) h))

    module _ (low : 2 ≤ m) where
      pub many-ports : most_ports < m → refused 1 nowhere ≡ ports_of t
      unfolding ports_of
      many-ports h = rw (← e) (sym (too_many most_ports m (saying m) low h))

      pub ports-said : m ≤ most_ports → accepted (record { ports = m; text = [] }) ≡ ports_of t
      unfolding ports_of
      ports-said h = rw (← e) (sym (fits most_ports m (saying m) low h))

  pub ports-silent : text_in (ports_of t) ≡ []
  unfolding ports_of sized
  ports-silent = by (number_up_to largest64 t)
    where
      size : (m : ℕ) (b : Bool) → text_in (cond b (saying m) (refused 1 nowhere)) ≡ []
      size m true = refl
      size m false = refl

      by : (o : Option ℕ) → text_in (then (need 8 nowhere o) (λ m. sized most_ports m (saying m))) ≡ []
      by none = refl
      by (some m) = size m (in_size most_ports m)
