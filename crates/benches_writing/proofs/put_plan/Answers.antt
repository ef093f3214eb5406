-- `benches_writing::put_plan` puts each line of the plan behind the one before.
use mathlib.Core.Path.{refl}
use mathlib.Core.List.{List, ◌++◌}
use Prim.Native.Nat.{ℕ, ◌≤◌}
use native.Mathlib.Omega.{arith}
use lib.ListN.{length}
use borrow.Author.Rules.{rules}
use Rattle.text_numbers.specs.Decimal.{digits_of}
use Rattle.text_numbers.specs.Signed.{signed_digits}
use Rattle.plan_lines.specs.Field.{field_text}
use Rattle.line_putting.proofs.Putting.{Going, going-first, going-room, going_on, spelled-asked, spelled-puts}
use Rattle.plan_rules.specs.Planned.{run_of}
use Rattle.plan_rules.specs.Rules.{leg_is}
use Rattle.plan_facts.specs.Facts.{run_text}
use Rattle.plans.specs.Grammar.{ports_key, legs_key, start_key, run_key}
use Rattle.benches_laws.specs.Plans.{one_plan_text}
use Rattle.benches_text.specs.Text.{most_answer}
use Rattle.benches_text.proofs.Lines.{plan-lines}
use Rattle.benches_writing.proofs.Short.{plan-short}
use Rattle.benches_writing.proofs.put_plan.Goals as goal
use Rattle.benches_writing.proofs.put_plan.Goals.{After-put_line-legs, After-put_line-run, After-put_line-start, Start}

-- the four lines
abbrev ports : Start → List ℕ
ports c = field_text ports_key (digits_of c.args.ports)

abbrev legs : Start → List ℕ
legs c = field_text legs_key (digits_of 1)

abbrev start : Start → List ℕ
start c = field_text start_key (digits_of c.args.l.start)

abbrev run : Start → List ℕ
run c = field_text run_key (signed_digits (run_of (leg_is c.args.l)))

-- what is left of them
abbrev Left : Start → ℕ → List ℕ → List ℕ → Type 0
Left c at rest buf = Going 0 (one_plan_text c.args.ports (leg_is c.args.l)) c.args.buf.now at rest buf

-- where the calls began
abbrev s1 : After-put_line-legs → Start
s1 c = c.before.before.before.before.before

abbrev s2 : After-put_line-start → Start
s2 c = s1 c.before.before.before.before.before.before

abbrev s3 : After-put_line-run → Start
s3 c = s2 c.before.before.before.before.before.before

short : (c : Start) → length (one_plan_text c.args.ports (leg_is c.args.l)) ≤ most_answer
short c = plan-short _ _ (omega (arith, c.ranges)) (omega (arith, c.ranges)) (omega (arith, c.ranges))

at_first : (c : Start) → Left c 0 (one_plan_text c.args.ports (leg_is c.args.l)) c.args.buf.now
at_first c = going-first 0 _ _ (omega (arith, c.requires, short c))

at_second : (c : After-put_line-legs) → let s = s1 c in Left s c.put_line-legs.result (legs s ++ (start s ++ run s)) c.put_line-legs.new.buf
at_second c = let s = s1 c in going_on (ports s) _ (at_first s) (plan-lines _ _) c.put_line-legs.ensures

at-third : (c : After-put_line-start) → let s = s2 c in Left s c.put_line-start.result (start s ++ run s) c.put_line-start.new.buf
at-third c = going_on (legs (s2 c)) _ (at_second c.before.before.before.before.before.before) refl c.put_line-start.ensures

at_last : (c : After-put_line-run) → Left (s3 c) c.put_line-run.result (run (s3 c)) c.put_line-run.new.buf
at_last c = going_on (start (s3 c)) _ (at-third c.before.before.before.before.before.before) refl c.put_line-run.ensures

pub put_line-legs-requires : goal.put_line-legs-requires
put_line-legs-requires c = (search rules, going-room (ports (goal.at.put_line-legs-requires c).Start) _ (at_first (goal.at.put_line-legs-requires c).Start) (plan-lines _ _))

pub put_line-start-requires : goal.put_line-start-requires
put_line-start-requires c = (search rules, going-room (legs (s1 (goal.at.put_line-start-requires c).After-put_line-legs)) _ (at_second (goal.at.put_line-start-requires c).After-put_line-legs) refl)

pub put_line-run-requires : goal.put_line-run-requires
put_line-run-requires c = (search rules, going-room (start (s2 (goal.at.put_line-run-requires c).After-put_line-start)) _ (at-third (goal.at.put_line-run-requires c).After-put_line-start) refl)

pub put_spelled-requires : goal.put_spelled-requires
unfolding run_text
put_spelled-requires c =
    spelled-asked _ _ c.run_line.ensures c.put_line-run.result c.put_line-run.new.buf (at_last (goal.at.put_spelled-requires c).After-put_line-run).room

pub returns-clause-fits : goal.returns-clause-fits
unfolding run_text
returns-clause-fits c = let P = (at_last (goal.at.returns-clause-fits c).After-put_line-run).comes _ _ (spelled-puts _ _ c.run_line.ensures _ _ _ _ c.put_spelled.ensures) in
    omega (arith, P.place, short (s3 (goal.at.returns-clause-fits c).After-put_line-run))

pub returns-clause-puts : goal.returns-clause-puts
unfolding run_text
returns-clause-puts c = let P = (at_last (goal.at.returns-clause-puts c).After-put_line-run).comes _ _ (spelled-puts _ _ c.run_line.ensures _ _ _ _ c.put_spelled.ensures) in
    P
