-- The values that the calls for C give (include/jidrofex_benches.h); how they cross stands in `face_values.Answers`.
-- Assumes nothing.
use Rattle.std.specs.Prelude.{ℕ, ◌+◌, List, [], ◌∷◌}
use Rattle.std.proofs.Math.Option.{Option, none, some}
use Rattle.words.specs.Told.{Told, accepted}
use Rattle.promise.specs.Plan.{Leg}
use Rattle.benches_laws.specs.Calls.{Counts}

-- JIDROFEX_BENCHES_VERSION
abbrev pub version : ℕ
version = 1

-- 'Gives the version of the library. Never refused'
abbrev pub version_told : Told ℕ
version_told = accepted version

-- 'Gives how many marks the plan has, the rank that the leg starts at, and its run'; with no plan '0 marks, and 0 and 0'
abbrev pub share_words : Option Leg → List ℕ
share_words none = []
share_words (some l) = (l.run + 1) ∷ l.start ∷ l.run ∷ []

-- 'Gives the sums of the covered, of the open and of the errors'
abbrev pub counts_words : Counts → List ℕ
counts_words c = c.covered ∷ c.opened ∷ c.errors ∷ []
