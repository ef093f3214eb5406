-- `face_state::word_of`: each range of places holds one field.
-- Assumes nothing.
use mathlib.Core.Path.{sym, ap, ◌∙◌}
use Prim.Native.Nat.{◌-◌}
use lib.IntN.{pos}
use lib.ListN.{get_or}
use mir.Syntax.{w64}
use mir.ValLaws.{to_z-of_z}
use borrow.Author.Rules.{rules}
use Rattle.campaign_state.proofs.Places.{Sized}
use Rattle.face_state.specs.States.{runs_place, run_bits}
use Rattle.face_state.proofs.StateWords.{run-word, last_word}
use Rattle.face_state.proofs.word_of.Goals as goal
use Rattle.face_state.proofs.word_of.Goals.{Start}

sized : (c : Start) → Sized c.args.s
sized c = record { starts = search rules; runs = search rules; panel = search rules }

pub returns-then-at-lt-PANEL : goal.returns-then-at-lt-PANEL
returns-then-at-lt-PANEL c =
    let run = get_or c.args.s.plan.runs (c.args.at - runs_place) (pos 0) in
    c.run_bits.ensures
    ∙ ap run_bits (to_z-of_z w64 run (search rules))
    ∙ sym (run-word c.args.s (sized (goal.at.returns-then-at-lt-PANEL c).Start) c.args.at c.if-at-lt-RUNS.false c.if-at-lt-PANEL.true)

pub returns : goal.returns
returns c =
    c.last_word.ensures ∙ sym (last_word c.args.s (sized (goal.at.returns c).Start) c.args.at c.if-at-lt-LEG.false)
