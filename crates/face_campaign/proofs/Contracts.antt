-- What the contract of each call for C says, its number, the words of its answer and each lent slice, in the definitions that the laws speak of. A clause that
-- is lost or weakened is missed here.
-- Assumes nothing.
use mathlib.Core.List.{[], ◌∷◌}
use lib.ListN.{length}
use Rattle.words.specs.Contract.{Says}
use Rattle.promise.specs.Campaign as model
use Rattle.face_values.specs.Answers.{nothing}
use Rattle.face_values.specs.Only.{Meets, result}
use Rattle.face_values.proofs.Meets.{meets, meets-leaving, meets-leaving-both}
use Rattle.face_laws.specs.Values.{order_and_bytes, bytes_and_end, where_words}
use Rattle.face_laws.specs.Calls.{called_told, called_words, request_bytes, status_in, begin_told, begin_words, resume_told, resume_words, rehearse_told, rehearse_words, orders_told, orders_words, orders_bytes}
use Rattle.face_campaign.proofs.jidrofex_begin.Reads as begin
use Rattle.face_campaign.proofs.jidrofex_request.Reads as request
use Rattle.face_campaign.proofs.jidrofex_report.Reads as report
use Rattle.face_campaign.proofs.jidrofex_report_mark.Reads as report-mark
use Rattle.face_campaign.proofs.jidrofex_status.Reads as status
use Rattle.face_campaign.proofs.jidrofex_resume.Reads as resume
use Rattle.face_campaign.proofs.jidrofex_rehearse.Reads as rehearse
use Rattle.face_campaign.proofs.jidrofex_orders.Reads as orders

-- jidrofex_begin(text: &[u8], state: &mut [u64], answer: &mut [u64; 5]) -> u8
pub begin-says : Says begin.Learnt
    (λ κs (text, (state, _)) r (_, (left, (answer, _))).
    Meets nothing (begin_told text.now state.now) (begin_words text.now state.now ∷ []) (result r answer.now (left.now ∷ [])))
begin-says κs a r e h = meets-leaving h

-- jidrofex_request(state: &mut [u64], buffer: &mut [u8], answer: &mut [u64; 5]) -> u8
pub request-says : Says request.Learnt
    (λ κs (state, (buf, _)) r (left, (bytes, (answer, _))).
    let c = model.request (length buf.now) in
    Meets order_and_bytes (called_told c state.now) (called_words c state.now ∷ request_bytes state.now buf.now ∷ [])
    (result r answer.now (left.now ∷ bytes.now ∷ [])))
request-says κs a r e h = meets-leaving-both h

-- jidrofex_report(state: &mut [u64], kind: u8, answer: &mut [u64; 5]) -> u8
pub report-says : Says report.Learnt
    (λ κs (state, (kind, _)) r (left, (_, (answer, _))).
    let c = model.report kind in
    Meets nothing (called_told c state.now) (called_words c state.now ∷ []) (result r answer.now (left.now ∷ [])))
report-says κs a r e h = meets-leaving h

-- jidrofex_report_mark(state: &mut [u64], mark: u64, kind: u8, answer: &mut [u64; 5]) -> u8
pub report-mark-says : Says report-mark.Learnt
    (λ κs (state, (mark, (kind, _))) r (left, (_, (_, (answer, _)))).
    let c = model.report_on mark kind in
    Meets nothing (called_told c state.now) (called_words c state.now ∷ []) (result r answer.now (left.now ∷ [])))
report-mark-says κs a r e h = meets-leaving h

-- jidrofex_status(state: &[u64], answer: &mut [u64; 5]) -> u8
pub status-says : Says status.Learnt (λ κs (state, _) r (_, (answer, _)). Meets where_words (status_in state.now) [] (result r answer.now []))
status-says κs a r e h = meets h

-- jidrofex_resume(state: &mut [u64], panel: &[u8], answer: &mut [u64; 5]) -> u8
pub resume-says : Says resume.Learnt
    (λ κs (state, (panel, _)) r (left, (_, (answer, _))).
    Meets nothing (resume_told panel.now state.now) (resume_words panel.now state.now ∷ []) (result r answer.now (left.now ∷ [])))
resume-says κs a r e h = meets-leaving h

-- jidrofex_rehearse(text: &[u8], rehearsal: &mut [u64], answer: &mut [u64; 5]) -> u8
pub rehearse-says : Says rehearse.Learnt
    (λ κs (text, (rehearsal, _)) r (_, (left, (answer, _))).
    Meets nothing (rehearse_told text.now rehearsal.now) (rehearse_words text.now rehearsal.now ∷ []) (result r answer.now (left.now ∷ [])))
rehearse-says κs a r e h = meets-leaving h

-- jidrofex_orders(rehearsal: &mut [u64], buffer: &mut [u8], answer: &mut [u64; 5]) -> u8
pub orders-says : Says orders.Learnt
    (λ κs (rehearsal, (buf, _)) r (left, (bytes, (answer, _))).
    let room = length buf.now in
    Meets bytes_and_end (orders_told room rehearsal.now) (orders_words room rehearsal.now ∷ orders_bytes rehearsal.now buf.now ∷ [])
    (result r answer.now (left.now ∷ bytes.now ∷ [])))
orders-says κs a r e h = meets-leaving-both h
