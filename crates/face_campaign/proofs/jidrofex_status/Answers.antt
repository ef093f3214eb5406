-- `face_campaign::jidrofex_status`: 15 for words that are no state; else where the campaign of that state is.
-- Assumes nothing.
use mathlib.Core.Path.{◌∙◌}
use Rattle.campaign_onward.specs.Calls.{status_of}
use Rattle.face_values.proofs.Tells.{tells}
use Rattle.face_laws.specs.Values.{where_words}
use Rattle.face_laws.specs.Calls.{states}
use Rattle.face_laws.proofs.OnState.{on-told, off-told}
use Rattle.face_campaign.proofs.jidrofex_status.Goals as goal

pub returns-in-Some : goal.returns-in-Some
returns-in-Some c =
    let told = tells where_words (c.status.ensures ∙ on-told states status_of _ c.in-Some.ensures) (c.give_where.ensures.number, c.give_where.ensures.words) in
    record { number = told.0; words = told.1 }

pub returns-in-None : goal.returns-in-None
returns-in-None c =
    let told = tells where_words (off-told states _ c.in-None.ensures status_of) (c.unfit.ensures.number, c.unfit.ensures.words) in
    record { number = told.0; words = told.1 }
