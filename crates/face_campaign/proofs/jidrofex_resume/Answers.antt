-- `face_campaign::jidrofex_resume`: going on with the state that the words are, and the words of the state that is left; for words that are no state the panel's
-- own refusal, or 15.
-- Assumes nothing.
use mathlib.Core.Path.{◌∙◌}
use Rattle.face_values.specs.Answers.{nothing}
use Rattle.face_values.proofs.Tells.{tells-leaving}
use Rattle.face_state.proofs.StateWords.{state-length}
use Rattle.face_laws.proofs.Resumes.{resume-told, resume-left, resume-panel, resume-none}
use Rattle.face_campaign.proofs.jidrofex_resume.Goals as goal

pub state_out-requires : goal.state_out-requires
state_out-requires c = state-length _ c.in-Some.ensures

pub returns : goal.returns
returns c =
    let judged = c.resume-r.ensures.judged ∙ resume-told c.args.panel.now c.args.state.now c.in-Some.ensures in
    let left = c.state_out.ensures ∙ resume-left c.args.panel.now c.args.state.now c.in-Some.ensures c.resume-r.ensures.state in
    let told = tells-leaving nothing (judged, left) (c.give_outcome.ensures.number, c.give_outcome.ensures.words) in
    record { number = told.0; words = told.1.0; left = told.1.1 }

pub returns-in-Err : goal.returns-in-Err
returns-in-Err c =
    let none = resume-panel c.args.panel.now c.args.state.now c.in_default.ensures c.in-Err.f c.in-Err.ensures in
    let told = tells-leaving nothing none (c.refuse.ensures.number, c.refuse.ensures.words) in
    record { number = told.0; words = told.1.0; left = told.1.1 }

pub returns-in-Ok : goal.returns-in-Ok
returns-in-Ok c =
    let told = tells-leaving nothing (resume-none c.args.panel.now c.args.state.now c.in_default.ensures c.in-Ok.ensures) (c.unfit.ensures.number, c.unfit.ensures.words) in
    record { number = told.0; words = told.1.0; left = told.1.1 }
