-- `line_writer::order_lines::and_part` copies the part behind what is there.
use mathlib.Core.Path.{refl}
use borrow.Author.Rules.{rules}
use Rattle.std.proofs.lemmas.Slice.{take-put_mid}
use Rattle.line_writer.proofs.order_lines.and_part.Goals as goal

pub returns : goal.returns
returns c = record {
  front = rw c.copy_from_slice.ensures.after (take-put_mid c.args.s.len _ c.args.s.bytes _ _ refl (search rules));
  len = refl;
}
