-- `face_campaign::jidrofex_request`: 15 for words that are no state; else the request on that state, and the words of the state that it leaves.
-- Assumes nothing.
use mathlib.Core.Path.{◌∙◌}
use lib.ListN.{length}
use Rattle.promise.specs.Campaign.{request}
use Rattle.campaign.specs.Calls.{answer_of, left_of, bytes_of}
use Rattle.face_values.proofs.Tells.{tells, tells-leaving}
use Rattle.face_state.proofs.StateWords.{state-length}
use Rattle.face_laws.specs.Values.{order_and_bytes, order_then}
use Rattle.face_laws.specs.Calls.{states, told_by}
use Rattle.face_laws.proofs.OnState.{on-told, on-bytes, off-buffer, order-bytes}
use Rattle.face_laws.proofs.Stays.{called-left}
use Rattle.face_campaign.proofs.jidrofex_request.Goals as goal

pub state_out-requires : goal.state_out-requires
state_out-requires c = state-length _ c.in-Some.ensures

pub returns : goal.returns
returns c =
    let call = request (length c.args.buffer.now) in
    let given = order-bytes (answer_of call _) c.request-r.ensures.told.written (tells (order_then _) c.request-r.ensures.told.answer (c.give_order.ensures.number, c.give_order.ensures.words)) in
    let told = tells order_and_bytes (on-told states (told_by call) c.args.state.now c.in-Some.ensures) given in record {
      number = told.0;
      words = told.1;
      left = c.state_out.ensures ∙ called-left call c.args.state.now c.in-Some.ensures c.request-r.ensures.told.state;
      bytes = c.request-r.ensures.bytes ∙ on-bytes states bytes_of c.args.state.now c.in-Some.ensures c.args.buffer.now;
    }

pub returns-in_default : goal.returns-in_default
returns-in_default c =
    let call = request (length c.args.buffer.now) in
    let none = off-buffer states c.args.state.now c.in_default.ensures (told_by call) (left_of call) bytes_of c.args.buffer.now in
    let told = tells-leaving order_and_bytes none (c.unfit.ensures.number, c.unfit.ensures.words) in record {
      number = told.0;
      words = told.1.0;
      left = told.1.1.0;
      bytes = told.1.1.1;
    }
