-- `benches_writing::put_leg` puts each part of the line behind the one before.
use mathlib.Core.Path.{refl}
use mathlib.Core.List.{List, ◌++◌}
use mathlib.Core.Option.{some}
use Prim.Native.Nat.{ℕ}
use borrow.Author.Rules.{rules}
use Rattle.plan_rules.specs.Rules.{leg_is}
use Rattle.line_refusal.specs.Words.{quoted}
use Rattle.line_putting.proofs.Putting.{Going, going-first, going-room, going_on}
use Rattle.benches_text.specs.Text.{ended, said, bench_line}
use Rattle.benches_writing.proofs.put_leg.Goals as goal
use Rattle.benches_writing.proofs.put_leg.Goals.{After-put_number-end, After-put_number-run, After-put_number-start, Start}

-- the parts of the line
abbrev bench : Start → List ℕ
bench c = said (quoted "bench=") c.args.bench

abbrev start : Start → List ℕ
start c = said (quoted " start=") c.args.l.start

abbrev run : Start → List ℕ
run c = said (quoted " run=") c.args.l.run

-- what is left of it
abbrev Left : Start → ℕ → List ℕ → List ℕ → Type 0
Left c at rest buf = Going c.args.from (bench_line c.args.bench (some (leg_is c.args.l))) c.args.buf.now at rest buf

-- where the calls began
abbrev s1 : After-put_number-start → Start
s1 c = c.before.before.before.before.before

abbrev s2 : After-put_number-run → Start
s2 c = s1 c.before.before.before.before.before.before

abbrev s3 : After-put_number-end → Start
s3 c = s2 c.before.before.before.before.before.before

at-bench : (c : Start) → Left c c.args.from (bench c ++ (start c ++ (run c ++ ended))) c.args.buf.now
unfolding bench_line
at-bench c = going-first _ _ _ c.requires

at-start : (c : After-put_number-start) → Left (s1 c) c.put_number-start.result (start (s1 c) ++ (run (s1 c) ++ ended)) c.put_number-start.new.buf
unfolding quoted
at-start c = going_on _ _ (at-bench (s1 c)) refl c.put_number-start.ensures

at-run : (c : After-put_number-run) → Left (s2 c) c.put_number-run.result (run (s2 c) ++ ended) c.put_number-run.new.buf
unfolding quoted
at-run c = going_on _ _ (at-start c.before.before.before.before.before.before) refl c.put_number-run.ensures

at-end : (c : After-put_number-end) → Left (s3 c) c.put_number-end.result ended c.put_number-end.new.buf
unfolding quoted
at-end c = going_on _ _ (at-run c.before.before.before.before.before.before) refl c.put_number-end.ensures

pub put_number-start-requires : goal.put_number-start-requires
unfolding quoted
put_number-start-requires c = (search rules, going-room (bench (goal.at.put_number-start-requires c).Start) _ (at-bench (goal.at.put_number-start-requires c).Start) refl)

pub put_number-run-requires : goal.put_number-run-requires
unfolding quoted
put_number-run-requires c = (search rules, going-room (start (s1 (goal.at.put_number-run-requires c).After-put_number-start)) _ (at-start (goal.at.put_number-run-requires c).After-put_number-start) refl)

pub put_number-end-requires : goal.put_number-end-requires
unfolding quoted
put_number-end-requires c = (search rules, going-room (run (s2 (goal.at.put_number-end-requires c).After-put_number-run)) _ (at-run (goal.at.put_number-end-requires c).After-put_number-run) refl)

pub put_text-requires : goal.put_text-requires
put_text-requires c = (at-end (goal.at.put_text-requires c).After-put_number-end).room

pub returns : goal.returns
returns c = (at-end (goal.at.returns c).After-put_number-end).comes _ _ c.put_text.ensures
