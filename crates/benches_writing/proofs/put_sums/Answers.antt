-- `benches_writing::put_sums` puts each line behind the one before.
use mathlib.Core.Path.{◌≡◌, refl}
use mathlib.Core.List.{List, ◌++◌}
use Prim.Native.Nat.{ℕ, ◌≤◌}
use native.Mathlib.Omega.{arith}
use lib.ListN.{length}
use borrow.Author.Rules.{rules}
use Rattle.text_numbers.specs.Decimal.{digits_of}
use Rattle.plan_lines.specs.Field.{field_text}
use Rattle.line_putting.proofs.Putting.{Going, going-first, going-room, going_on}
use Rattle.line_refusal.specs.Words.{quoted}
use Rattle.benches_calls.specs.Answers.{counts_are}
use Rattle.benches_text.specs.Text.{sum_lines, most_answer}
use Rattle.benches_writing.proofs.Short.{sums-short}
use Rattle.benches_writing.proofs.put_sums.Goals as goal
use Rattle.benches_writing.proofs.put_sums.Goals.{After-put_line-all, After-put_line-errors, After-put_line-open, Start}

-- the four lines
abbrev covered : Start → List ℕ
covered c = field_text (quoted "covered=") (digits_of c.args.c.covered)

abbrev opened : Start → List ℕ
opened c = field_text (quoted "open=") (digits_of c.args.c.opened)

abbrev errors : Start → List ℕ
errors c = field_text (quoted "errors=") (digits_of c.args.c.errors)

abbrev of : Start → List ℕ
of c = field_text (quoted "of=") (digits_of c.args.of)

-- what is left of them
abbrev Left : Start → ℕ → List ℕ → List ℕ → Type 0
Left c at rest buf = Going 0 (sum_lines (counts_are c.args.c) c.args.of) c.args.buf.now at rest buf

four : (c : Start) → sum_lines (counts_are c.args.c) c.args.of ≡ covered c ++ (opened c ++ (errors c ++ of c))
unfolding sum_lines
four c = refl

-- where the calls began
abbrev s1 : After-put_line-open → Start
s1 c = c.before.before.before.before.before

abbrev s2 : After-put_line-errors → Start
s2 c = s1 c.before.before.before.before.before.before

abbrev s3 : After-put_line-all → Start
s3 c = s2 c.before.before.before.before.before.before

short : (c : Start) → length (sum_lines (counts_are c.args.c) c.args.of) ≤ most_answer
short c = sums-short _ _ _ _ (omega (arith, c.ranges)) (omega (arith, c.ranges)) (omega (arith, c.ranges)) (omega (arith, c.ranges))

at_first : (c : Start) → Left c 0 (sum_lines (counts_are c.args.c) c.args.of) c.args.buf.now
at_first c = going-first 0 _ _ (omega (arith, c.requires, short c))

at_second : (c : After-put_line-open) → let s = s1 c in Left s c.put_line-open.result (opened s ++ (errors s ++ of s)) c.put_line-open.new.buf
unfolding quoted
at_second c = let s = s1 c in going_on (covered s) _ (at_first s) (four s) c.put_line-open.ensures

at-third : (c : After-put_line-errors) → let s = s2 c in Left s c.put_line-errors.result (errors s ++ of s) c.put_line-errors.new.buf
unfolding quoted
at-third c = going_on (opened (s2 c)) _ (at_second c.before.before.before.before.before.before) refl c.put_line-errors.ensures

at_last : (c : After-put_line-all) → Left (s3 c) c.put_line-all.result (of (s3 c)) c.put_line-all.new.buf
unfolding quoted
at_last c = going_on (errors (s3 c)) _ (at-third c.before.before.before.before.before.before) refl c.put_line-all.ensures

pub put_line-open-requires : goal.put_line-open-requires
unfolding quoted
put_line-open-requires c = (search rules, going-room (covered (goal.at.put_line-open-requires c).Start) _ (at_first (goal.at.put_line-open-requires c).Start) (four (goal.at.put_line-open-requires c).Start))

pub put_line-errors-requires : goal.put_line-errors-requires
unfolding quoted
put_line-errors-requires c = (search rules, going-room (opened (s1 (goal.at.put_line-errors-requires c).After-put_line-open)) _ (at_second (goal.at.put_line-errors-requires c).After-put_line-open) refl)

pub put_line-all-requires : goal.put_line-all-requires
unfolding quoted
put_line-all-requires c = (search rules, going-room (errors (s2 (goal.at.put_line-all-requires c).After-put_line-errors)) _ (at-third (goal.at.put_line-all-requires c).After-put_line-errors) refl)

pub put_line-requires : goal.put_line-requires
unfolding quoted
put_line-requires c = (search rules, (at_last (goal.at.put_line-requires c).After-put_line-all).room)

pub returns-clause-fits : goal.returns-clause-fits
unfolding quoted
returns-clause-fits c = let P = (at_last (goal.at.returns-clause-fits c).After-put_line-all).comes _ _ c.put_line.ensures in
    omega (arith, P.place, short (s3 (goal.at.returns-clause-fits c).After-put_line-all))

pub returns-clause-puts : goal.returns-clause-puts
unfolding quoted
returns-clause-puts c = let P = (at_last (goal.at.returns-clause-puts c).After-put_line-all).comes _ _ c.put_line.ensures in
    P
