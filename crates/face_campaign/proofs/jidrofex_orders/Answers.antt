-- `face_campaign::jidrofex_orders`: 15 for words that are no rehearsal; else what is printed from it, and the words of the rehearsal that it leaves.
-- Assumes nothing.
use mathlib.Core.Path.{sym, ◌∙◌}
use lib.ListN.{length}
use Rattle.face_values.proofs.Tells.{tells, tells-leaving}
use Rattle.face_state.proofs.RehearsalWords.{words-many}
use Rattle.face_laws.specs.Values.{bytes_and_end}
use Rattle.face_laws.specs.Calls.{rehearsals, print_told, print_left, print_bytes}
use Rattle.face_laws.proofs.OnState.{on-told, on-bytes, off-buffer}
use Rattle.face_laws.proofs.Stays.{orders-left}
use Rattle.face_campaign.proofs.jidrofex_orders.Goals as goal

pub rehearsal_out-requires : goal.rehearsal_out-requires
rehearsal_out-requires c = words-many _ _ (sym c.in-Some.ensures)

pub returns : goal.returns
returns c =
    let printed = c.fill-printed.ensures.told.told ∙ on-told rehearsals (print_told (length c.args.buffer.now)) c.args.rehearsal.now c.in-Some.ensures in
    let told = tells bytes_and_end printed (c.give_filled.ensures.number, c.give_filled.ensures.words) in record {
      number = told.0;
      words = told.1;
      left = c.rehearsal_out.ensures ∙ orders-left (length c.args.buffer.now) c.args.rehearsal.now c.in-Some.ensures c.fill-printed.ensures.told.rehearsal;
      bytes = c.fill-printed.ensures.bytes ∙ on-bytes rehearsals print_bytes c.args.rehearsal.now c.in-Some.ensures c.args.buffer.now;
    }

pub returns-in_default : goal.returns-in_default
returns-in_default c =
    let room = length c.args.buffer.now in
    let none = off-buffer rehearsals c.args.rehearsal.now c.in_default.ensures (print_told room) (print_left room) print_bytes c.args.buffer.now in
    let told = tells-leaving bytes_and_end none (c.unfit.ensures.number, c.unfit.ensures.words) in record {
      number = told.0;
      words = told.1.0;
      left = told.1.1.0;
      bytes = told.1.1.1;
    }
