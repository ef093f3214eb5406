-- Request 1, 'Patterns named, not marks', as one record over the definitions that the public call meets, with a slice of numbers lent. The call for C tells the same
-- (`face_plans.Contracts.named-says`).
-- Assumes nothing.
use Rattle.std.specs.Prelude.{ℕ, ◌*◌, ◌≤◌, ◌<◌, ◌≡◌, ◌↔◌, List, length, take, drop}
use Rattle.words.specs.Told.{Spot, nowhere, accepted, refused}
use Rattle.promise.specs.Derangements.{derangements}
use Rattle.promise_arcs.specs.Gaps.{Arc}
use Rattle.promise_arcs.specs.Named.{numbers, Right}
use Rattle.plan_rules.specs.Planned.{Planned}
use Rattle.plans.specs.Calls.{read_plan_of}
use Rattle.plan_named.specs.Calls.{Names, gaps_of, names_of, named_of, named_numbers}

-- what an accepted call tells of a text and leaves of a slice
pub record Tells (t old : List ℕ) (n : Names) : Type 0 where
  -- the text is a plan
  pub plan : Planned
  pub read : read_plan_of t ≡ accepted plan
  -- what is told of it is right, of these gaps
  pub arcs : List Arc
  pub right : Right (derangements plan.ports) plan.legs n.ranks arcs
  pub many : n.gaps ≡ length arcs
  -- 'two for each, first rank and how many, in rising order of first rank'
  pub front : take (2 * n.gaps) (named_numbers t old) ≡ numbers arcs
  -- 'The slice beyond the gaps keeps its numbers'
  pub beyond : drop (2 * n.gaps) (named_numbers t old) ≡ drop (2 * n.gaps) old

-- JIDROFEX_GAP_NUMBERS
abbrev pub gap_numbers : ℕ
gap_numbers = 34

pub record PatternsNamed : Type 0 where
  pub tells : (t old : List ℕ) (n : Names) → named_of t old ≡ accepted n → Tells t old n
  -- 'after all plan refusals'
  pub plan_first : (t old : List ℕ) (k : ℕ) (s : Spot) → read_plan_of t ≡ refused k s → named_of t old ≡ refused k s
  -- '2 also when the slice is shorter than twice the number of gaps', and only then
  pub room : (t old : List ℕ) (p : Planned) → read_plan_of t ≡ accepted p → (named_of t old ≡ refused 2 nowhere) ↔ (length old < 2 * length (gaps_of p))
  -- the header's number of numbers is enough for any plan
  pub enough : (t old : List ℕ) (p : Planned) → read_plan_of t ≡ accepted p → gap_numbers ≤ length old → named_of t old ≡ accepted (names_of p)
