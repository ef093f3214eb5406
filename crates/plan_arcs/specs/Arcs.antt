-- What the code's arcs and tallies are, of a plan in its places: the gaps and the number of named ranks are those of the plan's list of ranks.
-- Assumes nothing.
use Rattle.std.specs.Prelude.{ℕ, ◌≡◌, ◌<◌, List, map, length}
use Rattle.promise.specs.Derangements.{derangements}
use Rattle.promise_arcs.specs.Gaps as model
use Rattle.promise_arcs.specs.Named.{many_named, gaps_left}
use Rattle.promise_arcs.specs.Finding.{arc_of, nearest, lowest, openings}
use Rattle.plan_rules.specs.Rules.{legs_of}
use Rattle.plan_rules.specs.declared.Plan.{Plan}
use Rattle.plan_arcs.specs.declared.finding.Arc.{Arc}
use Rattle.plan_arcs.specs.declared.gaps.Tally.{Tally}

-- an arc of the model
abbrev pub arc_is : Arc → model.Arc
arc_is a = record { first = a.first; many = a.many }

-- the arcs of a plan's legs, round a circuit of c
abbrev pub arcs_of : ℕ → Plan → List model.Arc
arcs_of c p = map (arc_of c) (legs_of p)

-- the first rank of the next gap from rank x on; c where there is none
abbrev pub gap_first : ℕ → Plan → ℕ → ℕ
gap_first c p x = lowest c x (openings c (arcs_of c p))

-- g is the gap that begins there
pub record GapIs (c : ℕ) (p : Plan) (x : ℕ) (g : Arc) : Type 0 where
  pub below : gap_first c p x < c
  pub first : g.first ≡ gap_first c p x
  pub many : g.many ≡ nearest c (arcs_of c p) (gap_first c p x)

-- the gaps that a plan leaves
abbrev pub gaps_in : Plan → List model.Arc
gaps_in p = gaps_left (derangements p.ports) (legs_of p)

-- r counts the ranks that a plan names, each once, and its gaps
pub record Tallies (p : Plan) (r : Tally) : Type 0 where
  pub named : r.named ≡ many_named (derangements p.ports) (legs_of p)
  pub gaps : r.gaps ≡ length (gaps_in p)
