-- `printing::request_line`: what follows is by the answer, and a mark is reported as run.
use mathlib.Core.Path.{refl, sym, ap, ◌∙◌}
use Prim.Native.Nat.{◌-◌}
use native.Mathlib.Omega.{arith}
use lib.ListN.{length}
use Rattle.campaign.specs.Answers.{answer_told}
use Rattle.campaign.specs.Calls.{told_of}
use Rattle.campaign.proofs.Tells.{told-refused, retold, within-room}
use Rattle.printing.proofs.Parts.{part-asked, given-as, line-given}
use Rattle.printing.proofs.request_line.Goals as goal

pub overflow_add-after : goal.overflow_add-after
overflow_add-after c =
    let R = part-asked c.args.c.state c.args.buf.now c.args.at c.requires c.request-asked.result c.request-asked.ensures.told in
    let room = within-room (length c.args.buf.now - c.args.at) c.args.c.state in
    omega (arith, R.written, room, c.requires)

pub returns-in-Ok-clause-told : goal.returns-in-Ok-clause-told
returns-in-Ok-clause-told c = (line-given c.args.c.state c.args.buf.now c.args.at c.requires c.request-asked.result c.go_on.result _
    (c.request-asked.ensures.told, c.request-asked.ensures.bytes) (ap answer_told c.in-Ok.is) c.go_on.ensures.told c.go_on.ensures.state c.go_on.ensures.place).0

pub returns-in-Err-clause-told : goal.returns-in-Err-clause-told
returns-in-Err-clause-told c = let R = part-asked c.args.c.state c.args.buf.now c.args.at c.requires c.request-asked.result c.request-asked.ensures.told in
    let t = ap answer_told (sym c.in-Err.is) ∙ R.answer in
    let e = told-refused _ (sym t) in given-as c.args.c.state c.args.buf.now c.args.at c.requires _ c.request-asked.result _ R e (retold _ _ _ _ (t ∙ ap told_of e)) refl refl
