-- The reports by their numbers: one table, and one theorem; and where errors stop.
-- Assumes nothing.
use mathlib.Core.Path.{◌≡◌, refl}
use mathlib.Core.Bool.{Bool, true, false}
use mathlib.Core.List.{List, [], ◌∷◌, map}
use Prim.Native.Nat.{ℕ}
use Rattle.promise.specs.Plan.{Leg}
use Rattle.promise.specs.Campaign.{Report, ran, error, gave_up, report_of, is_ran, is_error, is_gave_up, is_closing, tick, Answer}
use Rattle.promise.specs.Derangements.{on_ports}

-- a report by its number: what it says, how much it adds to covered, to open and to errors, whether it closes the mark
pub record Case : Type 0 where
  pub kind : ℕ
  pub says : Report
  pub covered : ℕ
  pub opened : ℕ
  pub errors : ℕ
  pub closes : Bool

-- the report with a number, as the campaign takes it
abbrev pub case_of : ℕ → Case
case_of k =
    let w = report_of k in
    record { kind = k; says = w; covered = tick (is_ran w); opened = tick (is_gave_up w); errors = tick (is_error w); closes = is_closing w }

-- '0 ran, 1 error, 2 gave up'
abbrev pub cases : List Case
cases =
    record { kind = 0; says = ran; covered = 1; opened = 0; errors = 0; closes = true }
    ∷ record { kind = 1; says = error; covered = 0; opened = 0; errors = 1; closes = false }
    ∷ record { kind = 2; says = gave_up; covered = 0; opened = 1; errors = 0; closes = true }
    ∷ []

-- each is taken as it stands here
pub cases-hold : map (λ c. case_of c.kind) cases ≡ cases
cases-hold = refl

-- 'Errors stop at 65,535', on every campaign
pub errors-stop : (n : ℕ) (legs : List Leg) (width : Answer → ℕ) → (on_ports n legs width).limit ≡ 65535
errors-stop n legs width = refl
