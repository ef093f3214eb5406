-- The line of what is told of a bench.
-- Assumes nothing.
use Rattle.std.specs.Prelude.{ℕ, List, []}
use Rattle.std.proofs.Math.Option.{Option}
use Rattle.words.specs.Told.{Told, accepted, refused}
use Rattle.promise.specs.Plan.{Leg}
use Rattle.benches_text.specs.Text.{bench_line}

-- the line of a bench's share; none of a refusal
abbrev pub share_line : ℕ → Told (Option Leg) → List ℕ
share_line b (accepted o) = bench_line b o
share_line b (refused k s) = []
