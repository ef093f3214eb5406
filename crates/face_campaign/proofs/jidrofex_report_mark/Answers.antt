-- `face_campaign::jidrofex_report_mark`: 15 for words that are no state; else the report on that state and on the mark with that number, and the words of the
-- state that it leaves.
-- Assumes nothing.
use mathlib.Core.Path.{◌∙◌}
use Rattle.promise.specs.Campaign.{report_on}
use Rattle.face_values.specs.Answers.{nothing}
use Rattle.face_values.proofs.Tells.{tells-leaving}
use Rattle.face_state.proofs.StateWords.{state-length}
use Rattle.face_laws.proofs.OnState.{heard}
use Rattle.face_laws.proofs.Stays.{reported-told, unread-told}
use Rattle.face_campaign.proofs.jidrofex_report_mark.Goals as goal

pub state_out-requires : goal.state_out-requires
state_out-requires c = state-length _ c.in-Some.ensures

pub returns : goal.returns
returns c =
    let x = reported-told (report_on c.args.mark c.args.kind) c.args.state.now c.in-Some.ensures c.report_mark-r.ensures in
    let told = tells-leaving nothing (x.0, c.state_out.ensures ∙ x.1) (heard c.report_mark-r.result.answer (c.give_outcome.ensures.number, c.give_outcome.ensures.words)) in
    record { number = told.0; words = told.1.0; left = told.1.1 }

pub returns-in_default : goal.returns-in_default
returns-in_default c =
    let told = tells-leaving nothing (unread-told (report_on c.args.mark c.args.kind) c.args.state.now c.in_default.ensures) (c.unfit.ensures.number, c.unfit.ensures.words) in
    record { number = told.0; words = told.1.0; left = told.1.1 }
