-- A list in an array that is longer: so many places, and zeros in those beyond the list.
-- Assumes nothing.
use Rattle.std.specs.Prelude.{ℕ, ◌-◌, List, ◌++◌, length, replicate}

-- a list in `places` places: 0 beyond it
abbrev pub padded : {A : Type 0} → ℕ → A → List A → List A
padded places zeros l = l ++ replicate (places - length l) zeros
