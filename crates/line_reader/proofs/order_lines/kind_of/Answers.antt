-- `line_reader::order_lines::kind_of` tries the five keys. A text that begins with a key is at least as long.
use mathlib.Core.Path.{◌≡◌, sym, ◌∙◌}
use mathlib.Core.Bool.{false}
use native.Mathlib.Omega.{arith}
use Rattle.listing.specs.Limits.{most_ports, largest64}
use Rattle.text_keys.specs.Parts.{begins}
use Rattle.text_keys.proofs.Keys.{key-room}
use Rattle.line_format.specs.Format.{swapping, turning, seating, marking, ending, key}
use Rattle.line_reader.proofs.Reader.{line-swap, line-turn, line-seat, line-mark, line-end, line-none}
use Rattle.line_reader.proofs.order_lines.kind_of.Goals as goal
use Rattle.line_reader.proofs.order_lines.kind_of.Goals.{Else-has_key, Else-has_key-2, Else-has_key-3, Else-has_key-4}

-- the keys that are not there
no-swap : (c : Else-has_key) → false ≡ begins (key swapping) c.args.t.now
no-swap c = sym c.if-has_key.false ∙ c.has_key.ensures

no-turn : (c : Else-has_key-2) → false ≡ begins (key turning) c.args.t.now
no-turn c = sym c.if-has_key-2.false ∙ c.has_key-2.ensures

no-seat : (c : Else-has_key-3) → false ≡ begins (key seating) c.args.t.now
no-seat c = sym c.if-has_key-3.false ∙ c.has_key-3.ensures

no-mark : (c : Else-has_key-4) → false ≡ begins (key marking) c.args.t.now
no-mark c = sym c.if-has_key-4.false ∙ c.has_key-4.ensures

pub returns-then-has_key : goal.returns-then-has_key
returns-then-has_key c =
    let is = sym c.if-has_key.true ∙ c.has_key.ensures in
    record { is = line-swap largest64 most_ports _ is; within = key-room (key swapping) _ (sym is) }

pub returns-then-has_key-2 : goal.returns-then-has_key-2
returns-then-has_key-2 c =
    let is = sym c.if-has_key-2.true ∙ c.has_key-2.ensures in
    record { is = line-turn largest64 most_ports _ (no-swap (goal.at.returns-then-has_key-2 c).Else-has_key) is; within = key-room (key turning) _ (sym is) }

pub returns-then-has_key-3 : goal.returns-then-has_key-3
returns-then-has_key-3 c =
    let is = sym c.if-has_key-3.true ∙ c.has_key-3.ensures in
    record { is = line-seat largest64 most_ports _ (no-swap (goal.at.returns-then-has_key-3 c).Else-has_key) (no-turn (goal.at.returns-then-has_key-3 c).Else-has_key-2) is; within = key-room (key seating) _ (sym is) }

pub returns-then-has_key-4 : goal.returns-then-has_key-4
returns-then-has_key-4 c =
    let is = sym c.if-has_key-4.true ∙ c.has_key-4.ensures in
    record {
      is = line-mark largest64 most_ports _ (no-swap (goal.at.returns-then-has_key-4 c).Else-has_key) (no-turn (goal.at.returns-then-has_key-4 c).Else-has_key-2) (no-seat (goal.at.returns-then-has_key-4 c).Else-has_key-3) is;
      within = key-room (key marking) _ (sym is);
    }

pub returns-then-has_key-5 : goal.returns-then-has_key-5
returns-then-has_key-5 c =
    let is = sym c.if-has_key-5.true ∙ c.has_key-5.ensures in
    record {
      is = line-end largest64 most_ports _ (no-swap (goal.at.returns-then-has_key-5 c).Else-has_key) (no-turn (goal.at.returns-then-has_key-5 c).Else-has_key-2) (no-seat (goal.at.returns-then-has_key-5 c).Else-has_key-3) (no-mark (goal.at.returns-then-has_key-5 c).Else-has_key-4) is;
      within = key-room (key ending) _ (sym is);
    }

pub returns : goal.returns
returns c =
    let none = sym c.if-has_key-5.false ∙ c.has_key-5.ensures in
    record {
      is = line-none largest64 most_ports _ (no-swap (goal.at.returns c).Else-has_key) (no-turn (goal.at.returns c).Else-has_key-2) (no-seat (goal.at.returns c).Else-has_key-3) (no-mark (goal.at.returns c).Else-has_key-4) none;
      within = omega arith;
    }
