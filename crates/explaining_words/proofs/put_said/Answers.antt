-- `explaining_words::put_said` puts the one text, the number and the other text, each behind the one before.
-- Assumes nothing.
use mathlib.Core.Path.{refl}
use mathlib.Core.List.{◌++◌}
use Rattle.text_numbers.specs.Decimal.{digits_of}
use Rattle.line_putting.proofs.Putting.{Going, going-first, going_on}
use Rattle.explaining.specs.Text.{said}
use Rattle.explaining_words.proofs.put_said.Goals as goal

pub returns : goal.returns
returns c =
    let all = said c.args.front.now c.args.n c.args.rest.now in
    let a : Going c.args.from all c.args.buf.now c.args.from (c.args.front.now ++ (digits_of c.args.n ++ c.args.rest.now)) c.args.buf.now = going-first _ _ _ c.requires in
    let b : Going c.args.from all c.args.buf.now c.put_text-number.result (digits_of c.args.n ++ c.args.rest.now) c.put_text-number.new.buf = going_on _ _ a refl c.put_text-number.ensures in
    let d : Going c.args.from all c.args.buf.now c.put_number-end.result c.args.rest.now c.put_number-end.new.buf = going_on _ _ b refl c.put_number-end.ensures in
    d.comes _ _ c.put_text.ensures
