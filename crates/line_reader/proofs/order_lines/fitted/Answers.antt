-- `line_reader::order_lines::fitted` asks the shape on 20 jacks.
use mathlib.Core.Path.{sym, ◌∙◌}
use Rattle.listing.specs.Limits.{most_ports}
use Rattle.words.specs.declared.Line.TheVariants.{Movement}
use Rattle.line_reader.proofs.Reader.{fit-good, fit-bad}
use Rattle.line_reader.proofs.order_lines.fitted.Goals as goal

pub returns-then-in_shape : goal.returns-then-in_shape
returns-then-in_shape c = fit-good most_ports (Movement c.args.o) (sym c.in_shape.ensures ∙ c.if-in_shape.true)

pub returns-else-in_shape : goal.returns-else-in_shape
returns-else-in_shape c =
    fit-bad most_ports (Movement c.args.o) (sym c.in_shape.ensures ∙ c.if-in_shape.false)
