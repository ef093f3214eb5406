-- Where a campaign is; and going on after a power cut: a state that was saved, and the panel as it was read back. What the calls tell, and the state that is left.
-- Assumes nothing.
use Rattle.std.specs.Prelude.{ℕ, false, cond, ◌&&◌, List, eqb, ltb, length}
use Rattle.listing.specs.Limits.{most_ports}
use Rattle.words.specs.Told.{Told, accepted, refused, nowhere, then}
use Rattle.words.specs.Padded.{padded}
use Rattle.pattern_check.specs.Calls.{check_as}
use Rattle.promise.specs.Plan.{marks}
use Rattle.promise.specs.Campaign.{tick, rank_of, number_of}
use Rattle.plan_rules.specs.Rules.{legs_of}
use Rattle.campaign_state.specs.State.{setting_of, moment_of}
use Rattle.campaign_state.specs.Fitness.{fit}
use Rattle.campaign_state.specs.declared.State.{State}
use Rattle.campaign_onward.specs.declared.Whereabouts.{Whereabouts}

-- ---- where it is

-- the plan's marks; the number and rank of its mark, the one that stands, or else is next, or after the end is the last; whether it stands, whether the end is
-- shown
abbrev pub where_of : State → Whereabouts
where_of s = record {
  marks = marks (legs_of s.plan);
  number = number_of (setting_of s) (moment_of s);
  rank = rank_of (setting_of s) (moment_of s);
  standing = s.standing;
  ended = s.ended;
}

-- 15, at no place, unless the state is fit
unfoldable pub status_of : State → Told Whereabouts
status_of s = cond (fit s) (accepted (where_of s)) (refused 15 nowhere)

-- ---- going on

-- the state with these places for its panel
abbrev pub with_places : List ℕ → State → State
with_places q s = record {
  plan = s.plan;
  panel = q;
  leg = s.leg;
  step = s.step;
  covered = s.covered;
  opened = s.opened;
  errors = s.errors;
  standing = s.standing;
  ended = s.ended;
  seat = s.seat;
}

-- with a panel put in: its ports, and 0 beyond them
abbrev pub panel_in : List ℕ → State → State
panel_in p s = with_places (padded most_ports 0 p) s

-- with its seats begun anew: a panel that is read back cannot show whether a seat was done, so where a jack is to be seated, jack 1 is the next
abbrev pub seats_anew : State → State
seats_anew s = record {
  plan = s.plan;
  panel = s.panel;
  leg = s.leg;
  step = s.step;
  covered = s.covered;
  opened = s.opened;
  errors = s.errors;
  standing = s.standing;
  ended = s.ended;
  seat = tick (ltb 0 s.seat);
}

-- the state that goes on from a panel: with the panel put in, and its seats begun anew
abbrev pub going_on : List ℕ → State → State
going_on p s = seats_anew (panel_in p s)

-- 15, at no place, unless the panel has the state's ports and the state is fit with it
unfoldable pub fit_told : State → List ℕ → Told (Unit {0})
fit_told s p = cond (eqb (length p) s.plan.ports && fit (panel_in p s)) (accepted tt) (refused 15 nowhere)

-- what the call tells: the panel's own refusals first (1, 3, 4), then 15
unfoldable pub resume_of : State → List ℕ → Told (Unit {0})
resume_of s p = then (check_as false most_ports p) (λ x. fit_told s p)

-- the state that goes on: t if it was accepted; 'state stays' if it was refused
abbrev pub goes_on : Told (Unit {0}) → State → State → State
goes_on (accepted x) t s = t
goes_on (refused k q) t s = s

-- the state that is left
unfoldable pub resumed_of : State → List ℕ → State
resumed_of s p = goes_on (resume_of s p) (going_on p s) s
