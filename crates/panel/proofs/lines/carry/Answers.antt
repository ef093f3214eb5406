-- `panel::lines::carry` carries an order in shape out, takes a seat at a jack of the panel, mark and end as they come, and on a refusal leaves the panel as it was.
-- Assumes nothing.
use mathlib.Core.Path.{refl, sym, ◌∙◌}
use native.Mathlib.Omega.{arith}
use Rattle.listing.specs.Limits.{most_ports}
use Rattle.listing.proofs.Numbers.{either}
use Rattle.words.proofs.Shape.{shaped-shape}
use Rattle.pattern_check.proofs.Accepted.{accepted-panel}
use Rattle.pattern_check.proofs.Passed.{passed-on}
use Rattle.panel.proofs.Accepted.{carry-refused, carry-accepted, carry-unfitting}
use Rattle.panel.proofs.lines.carry.Goals as goal

pub overflow_cast-n : goal.overflow_cast-n
overflow_cast-n c = omega (arith, (accepted-panel most_ports _ c.in_ok-check_panel.ensures).high)

pub carry_order-requires : goal.carry_order-requires
carry_order-requires c = shaped-shape _ _ (sym c.in_shape.ensures ∙ c.if-in_shape.true)

pub returns-then-in_shape-clause-answer : goal.returns-then-in_shape-clause-answer
returns-then-in_shape-clause-answer c = let told = carry-accepted most_ports _ c.in_ok-check_panel.ensures _ _ c.in-Movement.is (sym c.in_shape.ensures ∙ c.if-in_shape.true) in
    told.0

pub returns-then-in_shape-clause-bytes : goal.returns-then-in_shape-clause-bytes
returns-then-in_shape-clause-bytes c = let told = carry-accepted most_ports _ c.in_ok-check_panel.ensures _ _ c.in-Movement.is (sym c.in_shape.ensures ∙ c.if-in_shape.true) in
    c.carry_order.ensures ∙ told.1

pub returns-then-one_of-clause-answer : goal.returns-then-one_of-clause-answer
returns-then-one_of-clause-answer c = (carry-accepted most_ports _ c.in_ok-check_panel.ensures _ _ c.in-Seat.is (sym c.one_of.ensures ∙ c.if-one_of.true)).0

pub returns-then-one_of-clause-bytes : goal.returns-then-one_of-clause-bytes
returns-then-one_of-clause-bytes c = (carry-accepted most_ports _ c.in_ok-check_panel.ensures _ _ c.in-Seat.is (sym c.one_of.ensures ∙ c.if-one_of.true)).1

pub returns-in_err-check_panel-clause-answer : goal.returns-in_err-check_panel-clause-answer
returns-in_err-check_panel-clause-answer c =
    passed-on _ _ _ c.from_residual.ensures.1 ∙ (carry-refused most_ports c.args.line _ _ _ c.in_err-check_panel.ensures).0

pub returns-in_err-check_panel-clause-bytes : goal.returns-in_err-check_panel-clause-bytes
returns-in_err-check_panel-clause-bytes c = (carry-refused most_ports c.args.line _ _ _ c.in_err-check_panel.ensures).1

pub returns-else-in_shape-clause-answer : goal.returns-else-in_shape-clause-answer
returns-else-in_shape-clause-answer c = rw c.nowhere.ensures ((carry-unfitting most_ports _ c.in_ok-check_panel.ensures _ _ c.in-Movement.is (sym c.in_shape.ensures ∙ c.if-in_shape.false)).0)

pub returns-else-in_shape-clause-bytes : goal.returns-else-in_shape-clause-bytes
returns-else-in_shape-clause-bytes c = ((carry-unfitting most_ports _ c.in_ok-check_panel.ensures _ _ c.in-Movement.is (sym c.in_shape.ensures ∙ c.if-in_shape.false)).1)

pub returns-else-one_of-clause-answer : goal.returns-else-one_of-clause-answer
returns-else-one_of-clause-answer c = rw c.nowhere-else-one_of.ensures ((carry-unfitting most_ports _ c.in_ok-check_panel.ensures _ _ c.in-Seat.is (sym c.one_of.ensures ∙ c.if-one_of.false)).0)

pub returns-else-one_of-clause-bytes : goal.returns-else-one_of-clause-bytes
returns-else-one_of-clause-bytes c = ((carry-unfitting most_ports _ c.in_ok-check_panel.ensures _ _ c.in-Seat.is (sym c.one_of.ensures ∙ c.if-one_of.false)).1)

-- a mark and the end fit every panel, and the panel after them is the panel
pub returns-in-Mark-clause-answer : goal.returns-in-Mark-clause-answer
returns-in-Mark-clause-answer c =
    either c.in-Mark.is
    (λ m. (carry-accepted most_ports _ c.in_ok-check_panel.ensures _ _ m.2 refl).0)
    (λ m. (carry-accepted most_ports _ c.in_ok-check_panel.ensures _ _ m.1 refl).0)

pub returns-in-Mark-clause-bytes : goal.returns-in-Mark-clause-bytes
returns-in-Mark-clause-bytes c =
    either c.in-Mark.is
    (λ m. (carry-accepted most_ports _ c.in_ok-check_panel.ensures _ _ m.2 refl).1)
    (λ m. (carry-accepted most_ports _ c.in_ok-check_panel.ensures _ _ m.1 refl).1)
