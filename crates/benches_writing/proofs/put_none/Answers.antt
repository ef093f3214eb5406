-- `benches_writing::put_none` puts each part of the line behind the one before.
use mathlib.Core.Path.{refl}
use mathlib.Core.List.{List, ◌++◌}
use mathlib.Core.Option.{none}
use Prim.Native.Nat.{ℕ}
use borrow.Author.Rules.{rules}
use Rattle.line_refusal.specs.Words.{quoted}
use Rattle.line_putting.proofs.Putting.{Going, going-first, going-room, going_on}
use Rattle.benches_text.specs.Text.{ended, said, bench_line}
use Rattle.benches_writing.proofs.put_none.Goals as goal
use Rattle.benches_writing.proofs.put_none.Goals.{After-put_number-end, Start}

-- what is left of the line
abbrev Left : Start → ℕ → List ℕ → List ℕ → Type 0
Left c at rest buf = Going c.args.from (bench_line c.args.bench none) c.args.buf.now at rest buf

at-bench : (c : Start) → Left c c.args.from (said (quoted "bench=") c.args.bench ++ (quoted " none" ++ ended)) c.args.buf.now
unfolding bench_line
at-bench c = going-first _ _ _ c.requires

at-end : (c : After-put_number-end) → Left c.before.before.before.before.before c.put_number-end.result (quoted " none" ++ ended) c.put_number-end.new.buf
unfolding quoted
at-end c = going_on _ _ (at-bench c.before.before.before.before.before) refl c.put_number-end.ensures

pub put_number-end-requires : goal.put_number-end-requires
unfolding quoted
put_number-end-requires c = (search rules, going-room (said (quoted "bench=") c.args.bench) _ (at-bench (goal.at.put_number-end-requires c).Start) refl)

pub put_text-requires : goal.put_text-requires
unfolding quoted
put_text-requires c = (at-end (goal.at.put_text-requires c).After-put_number-end).room

pub returns : goal.returns
unfolding quoted
returns c = (at-end (goal.at.returns c).After-put_number-end).comes _ _ c.put_text.ensures
