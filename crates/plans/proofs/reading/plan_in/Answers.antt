-- `plans::reading::plan_in` reads the ports' line and the legs' line, in which the numbers are judged before they are narrowed, and then the legs.
use mathlib.Core.Path.{◌≡◌, sym, subst}
use Prim.Native.Nat.{◌≤◌, ◌<◌}
use native.Mathlib.Omega.{arith}
use lib.ListN.{drop}
use Rattle.std.proofs.lemmas.Result.{err_from_is_err_and}
use Rattle.listing.specs.Limits.{most_legs, largest64}
use Rattle.words.specs.Told.{accepted}
use Rattle.plans.specs.Grammar.{ports_key, legs_key}
use Rattle.plan_lines.specs.Field.{field_in}
use Rattle.plans.specs.Reading.{ports_field, legs_field}
use Rattle.plans.specs.Answers.{PlanTold}
use Rattle.plan_rules.specs.Planned.{device}
use Rattle.plan_lines.proofs.Numbers.{number-accepted}
use Rattle.plan_lines.proofs.OneLine.{field-anywhere}
use Rattle.plans.proofs.Plans.{ports-refused, legs-line-refused, legs-decide}
use Rattle.plans.proofs.reading.plan_in.Goals as goal
use Rattle.plans.proofs.reading.plan_in.Goals.{In_ok-ports, In_ok-legs}

-- the ports that were read, and the text after their line
ports-read : (c : In_ok-ports)
    → accepted (record { value = c.in_ok-ports.ports; rest = drop c.in_ok-ports.at c.args.text.now }) ≡ field_in (ports_field device) 1 c.args.text.now
ports-read c = sym (field-anywhere (ports_field device) _ 1 _ _ (sym c.in_ok-ports.ensures.told))

ports-in : (c : In_ok-ports) → (2 ≤ c.in_ok-ports.ports.magnitude) × (c.in_ok-ports.ports.magnitude < 21)
ports-in c = let x = number-accepted largest64 ports_key 2 21 1 1 _ _ (sym (ports-read c)) in (x.1, x.2)

-- the legs that were read, and the text after their line
legs-read : (c : In_ok-legs)
    → accepted (record { value = c.in_ok-legs.legs; rest = drop c.in_ok-legs.next c.args.text.now }) ≡ field_in (legs_field device) 2 (drop c.in_ok-ports.at c.args.text.now)
legs-read c = c.in_ok-legs.ensures.told

legs-in : (c : In_ok-legs) → (1 ≤ c.in_ok-legs.legs.magnitude) × (c.in_ok-legs.legs.magnitude < 17)
legs-in c = let x = number-accepted largest64 legs_key 1 17 9 2 _ _ (sym (legs-read c)) in (x.1, x.2)

pub overflow_cast-ports : goal.overflow_cast-ports
overflow_cast-ports c = omega (arith, ports-in (goal.at.overflow_cast-ports c).In_ok-ports)

pub overflow_cast-legs : goal.overflow_cast-legs
overflow_cast-legs c = omega (arith, legs-in (goal.at.overflow_cast-legs c).In_ok-legs)

pub read_legs-requires : goal.read_legs-requires
read_legs-requires c =
    let x = ports-in (goal.at.read_legs-requires c).In_ok-ports in
    let y = legs-in (goal.at.read_legs-requires c).In_ok-legs in
    (c.in_ok-legs.ensures.within, x.0, omega arith, omega arith)

pub returns-in_err-ports : goal.returns-in_err-ports
returns-in_err-ports c =
    let p = err_from_is_err_and c.from_residual.result c.from_residual.ensures.1 in
    rw (p.1, p.2) (ports-refused device 1 _ _ _ c.in_err-ports.ensures.told)

pub returns-in_err-legs : goal.returns-in_err-legs
returns-in_err-legs c =
    let p = err_from_is_err_and c.from_residual-in_err-legs.result c.from_residual-in_err-legs.ensures.1 in
    rw (p.1, p.2) (legs-line-refused device 1 _ _ (ports-read (goal.at.returns-in_err-legs c).In_ok-ports) _ _ c.in_err-legs.ensures.told)

pub returns : goal.returns
returns c =
    subst (λ told. PlanTold most_legs told c.read_legs.result) (legs-decide device 1 _ _ (ports-read (goal.at.returns c).In_ok-ports) _ (legs-read (goal.at.returns c).In_ok-legs)) c.read_legs.ensures
