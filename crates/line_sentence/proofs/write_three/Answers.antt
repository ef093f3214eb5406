-- `line_sentence::write_three` refuses the three where there is no room for them all, and else writes each behind the one before.
-- Assumes nothing.
use mathlib.Core.Path.{◌∙◌}
use Rattle.line_sentence.proofs.Writing.{over-three, three-room, three-front}
use Rattle.line_sentence.proofs.write_three.Goals as goal

pub returns-then-buf-all-clause-answer : goal.returns-then-buf-all-clause-answer
returns-then-buf-all-clause-answer c = rw c.nowhere.ensures ((three-room c.args.a.now c.args.b.now c.args.c.now c.args.buf.now c.if-buf-all.true).0)

pub returns-then-buf-all-clause-bytes : goal.returns-then-buf-all-clause-bytes
returns-then-buf-all-clause-bytes c = ((three-room c.args.a.now c.args.b.now c.args.c.now c.args.buf.now c.if-buf-all.true).1)

pub returns-clause-answer : goal.returns-clause-answer
returns-clause-answer c = let told = three-front c.args.a.now c.args.b.now c.args.c.now c.args.buf.now c.if-buf-all.false in
    let all = over-three c.args.a.now c.args.b.now c.args.c.now c.args.buf.now _ _ _ in
    let over = all c.write_at.ensures c.write_at-2.ensures c.write_at-3.ensures in
    told.0

pub returns-clause-bytes : goal.returns-clause-bytes
returns-clause-bytes c = let told = three-front c.args.a.now c.args.b.now c.args.c.now c.args.buf.now c.if-buf-all.false in
    let all = over-three c.args.a.now c.args.b.now c.args.c.now c.args.buf.now _ _ _ in
    let over = all c.write_at.ensures c.write_at-2.ensures c.write_at-3.ensures in
    over ∙ told.1
