-- What the code answers of words that are to be a state, and what its pieces ask of them.
-- Assumes nothing.
use Rattle.std.specs.Prelude.{ℕ, ◌+◌, ◌≤◌, ◌<◌, ◌≡◌, List, length}
use Rattle.std.proofs.Math.Option.{Option, none, some}
use Rattle.listing.specs.Limits.{most_ports}
use Rattle.campaign_state.specs.declared.State.{State}
use Rattle.face_values.specs.Lines.{largest8}
use Rattle.face_state.specs.States.{ports_place, legs_place, panel_place, leg_place, errors_place, seat_place, state_count, largest32, word}
use Rattle.std.specs.declared.option.Option.{Option as Maybe}
use Rattle.std.specs.declared.option.Option.TheVariants.{Some, None}

-- the state, if the words are one
abbrev pub held_is : Maybe State → Option State
held_is (Some s) = some s
held_is None = none

-- as many words as a state has, and in each that goes into a smaller field a number that this holds
pub record WordsFit (ws : List ℕ) : Type 0 where
  pub many : length ws ≡ state_count
  pub ports : word ws ports_place ≤ largest8
  pub legs : word ws legs_place ≤ largest8
  pub panel : (i : ℕ) → i < most_ports → word ws (panel_place + i) ≤ largest8
  pub leg : word ws leg_place ≤ largest8
  pub errors : word ws errors_place ≤ largest32
  pub seat : word ws seat_place ≤ largest8
