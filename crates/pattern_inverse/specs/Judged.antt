-- What one pass over a list of ports says, with the working copy that it leaves.
-- Assumes nothing.
use Rattle.std.specs.Prelude.{ℕ, ◌≡◌, List, Option, Some, None, length, take}
use Rattle.listing.specs.Pattern.{Derangement}
use Rattle.pattern_inverse.specs.declared.types.Taken.{Taken}

-- the pattern that a working copy begins with
abbrev pub pattern_of : Taken → List ℕ
pattern_of t = take t.ports t.copy

-- the pattern p is taken in: the copy begins with it, and the inverse with its inverse
abbrev pub TakenIn : List ℕ → Taken → Type 0
TakenIn p t = (t.ports ≡ length p) × (pattern_of t ≡ p)

-- a pattern is taken in, and what is none is not
abbrev pub Judged : List ℕ → Option Taken → Type 0
Judged p (Some t) = TakenIn p t
Judged p None = Derangement (length p) p → ⊥
