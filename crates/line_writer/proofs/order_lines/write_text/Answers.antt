-- `line_writer::order_lines::write_text` refuses a text that there is no room for, and else copies it to the front of the buffer.
use Rattle.line_format.proofs.Written.{text-room, text-front}
use Rattle.line_writer.proofs.order_lines.write_text.Goals as goal

pub returns-then-buf-n-clause-answer : goal.returns-then-buf-n-clause-answer
returns-then-buf-n-clause-answer c = rw c.nowhere.ensures ((text-room c.args.text.now c.args.buf.now c.if-buf-n.true).0)

pub returns-then-buf-n-clause-bytes : goal.returns-then-buf-n-clause-bytes
returns-then-buf-n-clause-bytes c = (text-room c.args.text.now c.args.buf.now c.if-buf-n.true).1

pub returns-clause-answer : goal.returns-clause-answer
returns-clause-answer c = (text-front c.args.text.now c.args.buf.now c.if-buf-n.false).0

pub returns-clause-bytes : goal.returns-clause-bytes
returns-clause-bytes c = rw c.copy_from_slice.ensures.after ((text-front c.args.text.now c.args.buf.now c.if-buf-n.false).1)
