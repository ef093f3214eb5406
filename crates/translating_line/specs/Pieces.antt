-- What the inner pieces answer: a line that names a pattern.
-- Assumes nothing.
use Rattle.std.specs.Prelude.{ℕ, List}
use Rattle.words.specs.Told.{Told, accepted, then}
use Rattle.translating.specs.Names.{names_text}
use Rattle.translating.specs.Lines.{named_of, Went}

-- a line that names a pattern of n ports: what it leaves and prints
abbrev pub named_line_of : ℕ → List ℕ → Told Went
named_line_of n t = then (named_of n t) (λ x. accepted (record { ports = n; text = names_text x }))
