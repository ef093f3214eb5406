-- `line_reader::order_lines::line_of`: no order with a jack above 20 is in shape, and any other number is a jack; a seat is judged by its jack; a mark and an end take any numbers.
use mathlib.Core.Path.{◌≡◌, sym, ap, ◌∙◌}
use native.Mathlib.Omega.{arith}
use Rattle.listing.specs.Limits.{most_ports}
use Rattle.line_format.specs.Reading.{fitting}
use Rattle.line_reader.specs.Answers.{made_of}
use Rattle.line_reader.specs.declared.order_lines.Kind.{Kind}
use Rattle.line_reader.specs.declared.order_lines.Kind.TheVariants.{Swap, Turn}
use Rattle.line_reader.specs.declared.order_lines.Numbers.{Numbers}
use Rattle.line_reader.proofs.Reader.{unfit, not-jacks}
use Rattle.line_reader.proofs.order_lines.line_of.Goals as goal

-- what is told of the line of a kind, where the kind is known
of-kind : {k j : Kind} (x : Numbers) → k ≡ j → fitting most_ports (made_of j x) ≡ fitting most_ports (made_of k x)
of-kind x e = sym (ap (λ k. fitting most_ports (made_of k x)) e)

pub returns-then-all_jacks : goal.returns-then-all_jacks
returns-then-all_jacks c =
    c.fitted.ensures ∙ of-kind c.args.x c.in-Swap.is

pub returns-then-all_jacks-2 : goal.returns-then-all_jacks-2
returns-then-all_jacks-2 c =
    c.fitted-then-all_jacks-2.ensures ∙ of-kind c.args.x c.in-Turn.is

pub returns-else-all_jacks : goal.returns-else-all_jacks
returns-else-all_jacks c =
    let e = sym c.if-all_jacks.false ∙ c.all_jacks.ensures in
    unfit most_ports (made_of Swap c.args.x) (λ s. not-jacks most_ports c.args.x.first c.args.x.second 0 e (omega arith) (omega arith) (omega arith))
    ∙ of-kind c.args.x c.in-Swap.is

pub returns-else-all_jacks-2 : goal.returns-else-all_jacks-2
returns-else-all_jacks-2 c =
    let e = sym c.if-all_jacks-2.false ∙ c.all_jacks-in-Turn.ensures in
    unfit most_ports (made_of Turn c.args.x) (λ s. not-jacks most_ports c.args.x.first c.args.x.second c.args.x.third e (omega arith) (omega arith) (omega arith))
    ∙ of-kind c.args.x c.in-Turn.is

pub returns-in-Seat : goal.returns-in-Seat
returns-in-Seat c = c.seated.ensures ∙ of-kind c.args.x c.in-Seat.is

pub returns-in-Mark : goal.returns-in-Mark
unfolding fitting
returns-in-Mark c = of-kind c.args.x c.in-Mark.is

pub returns-in-End : goal.returns-in-End
unfolding fitting
returns-in-End c = of-kind c.args.x c.in-End.is
