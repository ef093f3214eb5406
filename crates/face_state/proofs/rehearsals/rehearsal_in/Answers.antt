-- `face_state::rehearsals::rehearsal_in`: 57 words are a rehearsal where the state with no counts is one; any other number of words is none.
-- Assumes nothing.
use mathlib.Core.Path.{◌≡◌, ap, ◌∙◌}
use mathlib.Core.List.{List}
use mathlib.Core.Option
use mathlib.Core.Option.{Option, some}
use Prim.Native.Nat.{ℕ}
use Rattle.printing.specs.Rehearsals.{rehearsal_of}
use Rattle.campaign_state.specs.declared.State.{State}
use Rattle.face_state.specs.States.{state_in}
use Rattle.face_state.specs.Rehearsals.{widened, rehearsal_in}
use Rattle.face_state.proofs.RehearsalWords.{not-rehearsal}
use Rattle.face_state.proofs.rehearsals.rehearsal_in.Goals as goal

pub returns-in_default : goal.returns-in_default
returns-in_default c = not-rehearsal c.args.words.now c.in_default.ensures.1

-- what the words are as those of a state
widened-in : (ws : List ℕ) {o : Option State} → o ≡ state_in (widened ws) → Option.map rehearsal_of o ≡ rehearsal_in ws
unfolding rehearsal_in
widened-in ws e = ap (Option.map rehearsal_of) e

pub returns-in_err-s : goal.returns-in_err-s
returns-in_err-s c =
    rw c.from_residual.ensures (widened-in c.args.words.now (c.in_err-s.ensures ∙ ap state_in (c.wide.ensures ∙ ap widened c.in-Ok.ensures.1.same)))

pub returns : goal.returns
returns c =
    ap some c.rehearsal_of.ensures
    ∙ widened-in c.args.words.now (c.in_ok-s.ensures ∙ ap state_in (c.wide.ensures ∙ ap widened c.in-Ok.ensures.1.same))
