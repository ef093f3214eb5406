-- `benches_writing::put_refusal` puts the line of the place behind the line of the number.
use mathlib.Core.List.{List}
use Prim.Native.Nat.{ℕ, ◌≤◌}
use native.Mathlib.Omega.{arith}
use lib.ListN.{length}
use borrow.Author.Rules.{rules}
use Rattle.text_numbers.specs.Decimal.{digits_of}
use Rattle.plan_lines.specs.Field.{field_text}
use Rattle.line_refusal.specs.Text.{refused_key, at_key, refusal_text}
use Rattle.line_putting.proofs.Putting.{Going, going-first, going-room, going_on}
use Rattle.benches_text.specs.Text.{most_answer}
use Rattle.benches_text.proofs.Lines.{refusal-lines}
use Rattle.benches_writing.proofs.Short.{refusal-short}
use Rattle.benches_writing.proofs.put_refusal.Goals as goal
use Rattle.benches_writing.proofs.put_refusal.Goals.{After-put_line-at, Start}

-- the two lines
abbrev number : Start → List ℕ
number c = field_text refused_key (digits_of c.args.number)

abbrev place : Start → List ℕ
place c = field_text at_key (digits_of c.args.place)

-- what is left of them
abbrev Left : Start → ℕ → List ℕ → List ℕ → Type 0
Left c at rest buf = Going 0 (refusal_text c.args.number c.args.place) c.args.buf.now at rest buf

short : (c : Start) → length (refusal_text c.args.number c.args.place) ≤ most_answer
short c = refusal-short _ _ (omega (arith, c.ranges)) (omega (arith, c.ranges))

at-number : (c : Start) → Left c 0 (refusal_text c.args.number c.args.place) c.args.buf.now
at-number c = going-first 0 _ _ (omega (arith, c.requires, short c))

at_place : (c : After-put_line-at) → Left c.before.before.before.before.before c.put_line-at.result (place c.before.before.before.before.before) c.put_line-at.new.buf
at_place c = going_on (number c.before.before.before.before.before) (place c.before.before.before.before.before) (at-number c.before.before.before.before.before) (refusal-lines _ _) c.put_line-at.ensures

pub put_line-at-requires : goal.put_line-at-requires
put_line-at-requires c = (search rules, going-room (number (goal.at.put_line-at-requires c).Start) (place (goal.at.put_line-at-requires c).Start) (at-number (goal.at.put_line-at-requires c).Start) (refusal-lines _ _))

pub put_line-requires : goal.put_line-requires
put_line-requires c = (search rules, (at_place (goal.at.put_line-requires c).After-put_line-at).room)

pub returns-clause-fits : goal.returns-clause-fits
returns-clause-fits c = let P = (at_place (goal.at.returns-clause-fits c).After-put_line-at).comes _ _ c.put_line.ensures in
    omega (arith, P.place, short (goal.at.returns-clause-fits c).Start)

pub returns-clause-puts : goal.returns-clause-puts
returns-clause-puts c = let P = (at_place (goal.at.returns-clause-puts c).After-put_line-at).comes _ _ c.put_line.ensures in
    P
