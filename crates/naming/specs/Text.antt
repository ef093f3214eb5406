-- What a plan names, as text (request 1, for planners), in lines of key=value as plans have them: how many different ranks, of how many there are, how many gaps,
-- and a line for each gap, its first rank first.
-- Assumes nothing.
use Rattle.std.specs.Prelude.{ℕ, List, [], ◌∷◌, ◌++◌, length}
use Rattle.listing.specs.Count.{count}
use Rattle.promise.specs.Derangements.{derangements}
use Rattle.promise_arcs.specs.Gaps.{Arc}
use Rattle.promise_arcs.specs.Named.{many_named}
use Rattle.text_numbers.specs.Decimal.{digits_of}
use Rattle.text_keys.specs.Parts.{comma}
use Rattle.plan_lines.specs.Field.{field_text}
use Rattle.plan_rules.specs.Rules.{legs_of}
use Rattle.plan_rules.specs.declared.Plan.{Plan}
use Rattle.plan_arcs.specs.Arcs.{gaps_in}

-- `named=`
abbrev pub named_key : List ℕ
named_key = 110 ∷ 97 ∷ 109 ∷ 101 ∷ 100 ∷ 61 ∷ []

-- `of=`
abbrev pub of_key : List ℕ
of_key = 111 ∷ 102 ∷ 61 ∷ []

-- `gaps=`
abbrev pub gaps_key : List ℕ
gaps_key = 103 ∷ 97 ∷ 112 ∷ 115 ∷ 61 ∷ []

-- `gap=`
abbrev pub gap_key : List ℕ
gap_key = 103 ∷ 97 ∷ 112 ∷ 61 ∷ []

-- how many different ranks a plan names, of how many patterns, and how many gaps it leaves
unfoldable pub counts_text : ℕ → ℕ → ℕ → List ℕ
counts_text named of gaps = field_text named_key (digits_of named) ++ (field_text of_key (digits_of of) ++ field_text gaps_key (digits_of gaps))

-- the line of a gap: its first rank, and how many ranks it has
unfoldable pub gap_text : Arc → List ℕ
gap_text A = field_text gap_key (digits_of A.first ++ (comma ∷ digits_of A.many))

-- a line for each gap, in order
unfoldable pub gaps_text : List Arc → List ℕ
gaps_text [] = []
gaps_text (A ∷ As) = gap_text A ++ gaps_text As

-- what a plan names: the counts, and then the gaps
unfoldable pub named_text : Plan → List ℕ
named_text p = counts_text (many_named (derangements p.ports) (legs_of p)) (count p.ports) (length (gaps_in p)) ++ gaps_text (gaps_in p)

-- NAMED_BYTES: no text is longer
abbrev pub most_named : ℕ
most_named = 718
