-- What the call on a plan's text tells, and which numbers it leaves in the lent slice, for accepted and refused calls alike (request 1, 'Patterns named, not
-- marks'). The ranks that are named and the gaps are those of the plan's list of ranks (promise_arcs.Named).
-- Assumes nothing.
use Rattle.std.specs.Prelude.{ℕ, List, length}
use Rattle.words.specs.Told.{Told, accepted, refused, then}
use Rattle.line_format.specs.Calls.{room_of, room_bytes}
use Rattle.promise.specs.Derangements.{derangements}
use Rattle.promise_arcs.specs.Gaps.{Arc}
use Rattle.promise_arcs.specs.Named.{many_named, gaps_left, numbers}
use Rattle.plan_rules.specs.Planned.{Planned}
use Rattle.plans.specs.Calls.{read_plan_of}

-- what is told of a plan: how many different ranks it names, and how many gaps it leaves
pub record Names : Type 0 where
  pub ranks : ℕ
  pub gaps : ℕ

-- the gaps that a plan leaves
abbrev pub gaps_of : Planned → List Arc
gaps_of p = gaps_left (derangements p.ports) p.legs

abbrev pub names_of : Planned → Names
names_of p = record { ranks = many_named (derangements p.ports) p.legs; gaps = length (gaps_of p) }

-- 'Refusals: 2 also when the slice is shorter than twice the number of gaps'
unfoldable pub fitted : Planned → List ℕ → Told Names
fitted p old = then (room_of (numbers (gaps_of p)) old) (λ n. accepted (names_of p))

-- the gaps at the front of the slice, and 'the slice beyond the gaps keeps its numbers'; all of it where they do not fit
unfoldable pub fitted_numbers : Planned → List ℕ → List ℕ
fitted_numbers p old = room_bytes (numbers (gaps_of p)) old

-- the call on a text: 'after all plan refusals'
unfoldable pub named_of : List ℕ → List ℕ → Told Names
named_of t old = then (read_plan_of t) (λ p. fitted p old)

abbrev pub numbers_after : Told Planned → List ℕ → List ℕ
numbers_after (accepted p) old = fitted_numbers p old
numbers_after (refused k s) old = old

unfoldable pub named_numbers : List ℕ → List ℕ → List ℕ
named_numbers t old = numbers_after (read_plan_of t) old
