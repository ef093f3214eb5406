-- Where a state stands: all that a call has to know of it before it answers.
-- Assumes nothing.
use Rattle.std.specs.Prelude.{ℕ, cond}
use Rattle.std.proofs.Math.Option.{Option, none, some}
use Rattle.listing.specs.Orders as list
use Rattle.words.specs.Meaning.{order_of}
use Rattle.promise.specs.Tests.{same}
use Rattle.promise.specs.Campaign as model
use Rattle.promise.specs.Campaign.{seating, todo, wanted}
use Rattle.campaign_way.specs.Coming.{next_of}
use Rattle.campaign_state.specs.State.{setting_of, moment_of}
use Rattle.campaign_state.specs.Fitness.{fit}
use Rattle.campaign_state.specs.declared.State.{State}
use Rattle.campaign_state.specs.declared.judging.Stance.{Stance}
use Rattle.campaign_state.specs.declared.judging.Stance.TheVariants.{Unfit, AtMark, AtEnd, Seat, Clear, Next}

-- unfit; a mark stands; the end is shown; a jack is to be seated; nothing is to come before the next mark; an order is to come
pub data Stand : Type 0 where
  unfit : Stand
  at_mark : Stand
  at_end : Stand
  seat : ℕ → Stand
  clear : Stand
  next : list.Order → Stand

-- the same of an answer
abbrev pub stance_is : Stance → Stand
stance_is Unfit = unfit
stance_is AtMark = at_mark
stance_is AtEnd = at_end
stance_is (Seat j) = seat j.0
stance_is Clear = clear
stance_is (Next o) = next (order_of o)

-- on the way to a mark
abbrev pub way_stand : Option (Option list.Order) → Stand
way_stand none = unfit
way_stand (some none) = clear
way_stand (some (some o)) = next o

-- where a moment stands, by its panel
unfoldable pub panel_stand : model.Setting → model.State → Stand
panel_stand C m =
    cond m.standing (cond (same m.panel (wanted C m)) at_mark unfit)
    (cond m.ended (cond (same m.panel (wanted C m)) at_end unfit)
    (cond (seating m) (cond (same m.panel (wanted C m)) (seat m.to_seat) unfit)
    (way_stand (next_of (todo C m)))))

-- where a state stands
unfoldable pub stand_of : State → Stand
stand_of s = cond (fit s) (panel_stand (setting_of s) (moment_of s)) unfit
