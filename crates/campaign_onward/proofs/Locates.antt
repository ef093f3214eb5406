-- What is told of where a state is: it itself where it is fit, else 15.
-- Assumes nothing.
use mathlib.Core.Path.{◌≡◌, refl}
use mathlib.Core.Bool.{true, false}
use Rattle.words.specs.Told.{accepted, refused, nowhere}
use Rattle.campaign_state.specs.Fitness.{fit}
use Rattle.campaign_state.specs.declared.State.{State}
use Rattle.campaign_onward.specs.Calls.{where_of, status_of}

pub status-fit : (s : State) → fit s ≡ true → accepted (where_of s) ≡ status_of s
unfolding status_of
status-fit s f = rw f refl

pub status-unfit : (s : State) → fit s ≡ false → refused 15 nowhere ≡ status_of s
unfolding status_of
status-unfit s f = rw f refl
