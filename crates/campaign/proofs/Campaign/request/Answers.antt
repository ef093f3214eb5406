-- `campaign::Campaign::request`: 15 for an unfit state, 13 while a mark stands; else the end, the next jack to seat, the mark or the next order is handed out.
use mathlib.Core.Path.{◌≡◌, refl, sym, ap, ◌∙◌}
use native.Mathlib.Omega.{arith}
use lib.ListN.{length}
use borrow.Author.Rules.{rules}
use Rattle.words.specs.Meaning.{order_of}
use Rattle.words.specs.Shape.{line_fits}
use Rattle.words.specs.declared.Reason.TheVariants.{Unfit, MarkStands}
use Rattle.words.specs.declared.Line.TheVariants.{Seat}
use Rattle.words.proofs.Shape.{shape-shaped, fits-passes}
use Rattle.promise.specs.Campaign as model
use Rattle.promise.specs.Campaign.{request, the_end}
use Rattle.campaign_state.specs.Standing.{stance_is, unfit, at_mark, at_end, seat, clear, next, stand_of}
use Rattle.campaign_state.proofs.Fit.{fit-inside, Coming, Stood, stands}
use Rattle.campaign_state.proofs.Places.{Sized, few-ports, start-below}
use Rattle.campaign.specs.Calls.{answer_of, line_is, roomed}
use Rattle.campaign.proofs.Asked.{unfit-answer, standing-answer, end-answer, seat-answer, mark-answer, order-answer}
use Rattle.campaign.proofs.Asked.{next-shaped, seat-below}
use Rattle.campaign.proofs.Tells.{request-refused, request-as, bytes-by, bytes-stay}
use Rattle.campaign.proofs.Campaign.request.Goals as goal
use Rattle.campaign.proofs.Campaign.request.Goals.{In-AtEnd, In-Clear, In-Next, In-Seat, Start}

sized : (c : Start) → Sized c.args.self.state
sized c = record { starts = search rules; runs = search rules; panel = search rules }

ends : (c : In-AtEnd) → at_end ≡ stand_of c.args.self.state
ends c = ap stance_is (sym c.in-AtEnd.is) ∙ c.judge.ensures

seats : (c : In-Seat) → Stood c.args.self.state (seat c.in-Seat.j.0)
seats c = stands _ (seat _) (ap stance_is (sym c.in-Seat.is) ∙ c.judge.ensures)

clears : (c : In-Clear) → clear ≡ stand_of c.args.self.state
clears c = ap stance_is (sym c.in-Clear.is) ∙ c.judge.ensures

goes : (c : In-Next) → Coming c.args.self.state (order_of c.in-Next.o)
goes c = stands _ (next _) (ap stance_is (sym c.in-Next.is) ∙ c.judge.ensures)

pub closed_marks-requires : goal.closed_marks-requires
closed_marks-requires c = fit-inside _ (stands _ at_end (ends c)).0

pub hand_out-requires : goal.hand_out-requires
hand_out-requires c =
    ((few-ports c.args.self.state (sized (goal.at.hand_out-requires c).Start) (fit-inside _ (stands _ at_end (ends (goal.at.hand_out-requires c).In-AtEnd)).0)).1, refl)

pub hand_out-requires-in-Seat : goal.hand_out-requires-in-Seat
hand_out-requires-in-Seat c =
    let f = seats (goal.at.hand_out-requires-in-Seat c).In-Seat in (
      (few-ports c.args.self.state (sized (goal.at.hand_out-requires-in-Seat c).Start) (fit-inside c.args.self.state f.0)).1,
      fits-passes c.args.self.state.plan.ports (Seat _) (omega (arith, f.1, f.2), omega (arith, seat-below c.args.self.state f.0, f.2)),
    )

pub next_mark-requires : goal.next_mark-requires
next_mark-requires c = fit-inside _ (stands _ clear (clears c)).0

pub hand_out-requires-in-Clear : goal.hand_out-requires-in-Clear
hand_out-requires-in-Clear c =
    ((few-ports c.args.self.state (sized (goal.at.hand_out-requires-in-Clear c).Start) (fit-inside _ (stands _ clear (clears (goal.at.hand_out-requires-in-Clear c).In-Clear)).0)).1, ap (line_fits _) c.next_mark.ensures)

pub hand_out-requires-in-Next : goal.hand_out-requires-in-Next
hand_out-requires-in-Next c =
    let g = goes (goal.at.hand_out-requires-in-Next c).In-Next in
    let I = fit-inside c.args.self.state g.fits in
    let p = few-ports c.args.self.state (sized (goal.at.hand_out-requires-in-Next c).Start) I in
    (p.1, shape-shaped c.args.self.state.plan.ports _ (next-shaped c.args.self.state.plan.ports p.0 _ c.args.self.state.step _ _ g.others (start-below c.args.self.state (sized (goal.at.hand_out-requires-in-Next c).Start) I) g.orders))

pub returns-in-Unfit-clause-told : goal.returns-in-Unfit-clause-told
returns-in-Unfit-clause-told c = let told : answer_of (request (length c.args.buf.now)) c.args.self.state ≡ _ =
    unfit-answer _ c.args.self.state (stands c.args.self.state unfit (ap stance_is (sym c.in-Unfit.is) ∙ c.judge.ensures)) in
    request-refused _ _ c.args.self.state _ Unfit 15 c.refused.ensures refl told

pub returns-in-Unfit-clause-bytes : goal.returns-in-Unfit-clause-bytes
returns-in-Unfit-clause-bytes c = let told : answer_of (request (length c.args.buf.now)) c.args.self.state ≡ _ =
    unfit-answer _ c.args.self.state (stands c.args.self.state unfit (ap stance_is (sym c.in-Unfit.is) ∙ c.judge.ensures)) in
    bytes-stay c.args.self.state c.args.buf.now 15 told

pub returns-in-AtMark-clause-told : goal.returns-in-AtMark-clause-told
returns-in-AtMark-clause-told c = let f = stands c.args.self.state at_mark (ap stance_is (sym c.in-AtMark.is) ∙ c.judge.ensures) in
    let told : answer_of (request (length c.args.buf.now)) c.args.self.state ≡ _ = standing-answer c.args.self.state f.0 _ f.1 in
    request-refused _ _ c.args.self.state _ MarkStands 13 c.refused-in-AtMark.ensures refl told

pub returns-in-AtMark-clause-bytes : goal.returns-in-AtMark-clause-bytes
returns-in-AtMark-clause-bytes c = let f = stands c.args.self.state at_mark (ap stance_is (sym c.in-AtMark.is) ∙ c.judge.ensures) in
    let told : answer_of (request (length c.args.buf.now)) c.args.self.state ≡ _ = standing-answer c.args.self.state f.0 _ f.1 in
    bytes-stay c.args.self.state c.args.buf.now 13 told

pub returns-in-AtEnd-clause-told : goal.returns-in-AtEnd-clause-told
returns-in-AtEnd-clause-told c = let f = stands c.args.self.state at_end (ends (goal.at.returns-in-AtEnd-clause-told c).In-AtEnd) in
    let room = length c.args.buf.now in
    let told : answer_of (request room) c.args.self.state ≡ roomed room (the_end c.closed_marks.result) =
    end-answer c.args.self.state f.0 room f.1 f.2 ∙ ap (λ m. roomed room (the_end m)) (sym c.closed_marks.ensures) in
    request-as _ _ _ c.args.self.state _ (sym told) c.hand_out.ensures.told

pub returns-in-AtEnd-clause-bytes : goal.returns-in-AtEnd-clause-bytes
returns-in-AtEnd-clause-bytes c = let f = stands c.args.self.state at_end (ends (goal.at.returns-in-AtEnd-clause-bytes c).In-AtEnd) in
    let room = length c.args.buf.now in
    let told : answer_of (request room) c.args.self.state ≡ roomed room (the_end c.closed_marks.result) =
    end-answer c.args.self.state f.0 room f.1 f.2 ∙ ap (λ m. roomed room (the_end m)) (sym c.closed_marks.ensures) in
    c.hand_out.ensures.bytes ∙ bytes-by c.args.self.state c.args.buf.now _ told

pub returns-in-Seat-clause-told : goal.returns-in-Seat-clause-told
returns-in-Seat-clause-told c = let f = seats (goal.at.returns-in-Seat-clause-told c).In-Seat in
    let room = length c.args.buf.now in
    let told : answer_of (request room) c.args.self.state ≡ roomed room (model.seat _) = seat-answer c.args.self.state f.0 room f.1 ∙ ap (λ k. roomed room (model.seat k)) (sym f.2) in
    request-as _ _ _ c.args.self.state _ (sym told) c.hand_out-in-Seat.ensures.told

pub returns-in-Seat-clause-bytes : goal.returns-in-Seat-clause-bytes
returns-in-Seat-clause-bytes c = let f = seats (goal.at.returns-in-Seat-clause-bytes c).In-Seat in
    let room = length c.args.buf.now in
    let told : answer_of (request room) c.args.self.state ≡ roomed room (model.seat _) = seat-answer c.args.self.state f.0 room f.1 ∙ ap (λ k. roomed room (model.seat k)) (sym f.2) in
    c.hand_out-in-Seat.ensures.bytes ∙ bytes-by c.args.self.state c.args.buf.now _ told

pub returns-in-Clear-clause-told : goal.returns-in-Clear-clause-told
returns-in-Clear-clause-told c = let f = stands c.args.self.state clear (clears (goal.at.returns-in-Clear-clause-told c).In-Clear) in
    let room = length c.args.buf.now in
    let told : answer_of (request room) c.args.self.state ≡ roomed room (line_is c.next_mark.result) =
    mark-answer c.args.self.state f.0 room f.1 f.2 f.3 f.4 ∙ ap (λ l. roomed room (line_is l)) (sym c.next_mark.ensures) in
    request-as _ _ _ c.args.self.state _ (sym told) c.hand_out-in-Clear.ensures.told

pub returns-in-Clear-clause-bytes : goal.returns-in-Clear-clause-bytes
returns-in-Clear-clause-bytes c = let f = stands c.args.self.state clear (clears (goal.at.returns-in-Clear-clause-bytes c).In-Clear) in
    let room = length c.args.buf.now in
    let told : answer_of (request room) c.args.self.state ≡ roomed room (line_is c.next_mark.result) =
    mark-answer c.args.self.state f.0 room f.1 f.2 f.3 f.4 ∙ ap (λ l. roomed room (line_is l)) (sym c.next_mark.ensures) in
    c.hand_out-in-Clear.ensures.bytes ∙ bytes-by c.args.self.state c.args.buf.now _ told

pub returns-in-Next-clause-told : goal.returns-in-Next-clause-told
returns-in-Next-clause-told c = let g = goes (goal.at.returns-in-Next-clause-told c).In-Next in
    let told = order-answer c.args.self.state g.fits (length c.args.buf.now) _ g.others g.none g.going g.unseated g.orders in
    request-as _ _ _ c.args.self.state _ (sym told) c.hand_out-in-Next.ensures.told

pub returns-in-Next-clause-bytes : goal.returns-in-Next-clause-bytes
returns-in-Next-clause-bytes c = let g = goes (goal.at.returns-in-Next-clause-bytes c).In-Next in
    let told = order-answer c.args.self.state g.fits (length c.args.buf.now) _ g.others g.none g.going g.unseated g.orders in
    c.hand_out-in-Next.ensures.bytes ∙ bytes-by c.args.self.state c.args.buf.now _ told
