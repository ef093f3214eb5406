-- A rehearsal of a plan and the state of a campaign that it stands for: the same plan, panel, leg, step and end, with no mark standing, and every mark
-- before the next one covered. A rehearsal itself has no counts.
-- Assumes nothing.
use Rattle.std.specs.Prelude.{ℕ, Bool, false, cond, ◌&&◌, leb, ltb}
use Rattle.promise.specs.Campaign.{here, closed_marks}
use Rattle.plan_rules.specs.Planned.{device}
use Rattle.plan_rules.specs.Rules.{plan_ruled}
use Rattle.campaign_state.specs.State.{setting_of, moment_of}
use Rattle.campaign_state.specs.declared.State.{State}
use Rattle.printing.specs.declared.Rehearsal.{Rehearsal}

-- what a rehearsal keeps of a state: all but the counts, whether a mark stands, and the jack to seat
abbrev pub rehearsal_of : State → Rehearsal
rehearsal_of s = record { plan = s.plan; panel = s.panel; leg = s.leg; step = s.step; ended = s.ended }

-- the state at a rehearsal's moment with so many marks covered, none open, no error, no mark standing and no jack to seat
abbrev pub state_with : ℕ → Rehearsal → State
state_with covered r = record {
  plan = r.plan;
  panel = r.panel;
  leg = r.leg;
  step = r.step;
  covered = covered;
  opened = 0;
  errors = 0;
  standing = false;
  ended = r.ended;
  seat = 0;
}

-- whether plan, leg and step are within the rules
abbrev pub within : Rehearsal → Bool
within r =
    let s = state_with 0 r in
    plan_ruled device r.plan && ltb r.leg r.plan.legs && leb r.step (here (setting_of s) (moment_of s)).run

-- the marks that are taken as run: those before the next one, all after the end; none where the rehearsal is not within the rules, which is unfit anyway
unfoldable pub ran_of : Rehearsal → ℕ
ran_of r = let s = state_with 0 r in cond (within r) (closed_marks (setting_of s) (moment_of s)) 0

-- the state that a rehearsal stands for
abbrev pub state_of : Rehearsal → State
state_of r = state_with (ran_of r) r
