-- The bytes that part texts, by their numbers.
-- Assumes nothing.
use mathlib.Core.Path.{◌≡◌, refl}
use Rattle.text_keys.specs.Parts.{newline, comma}

-- a newline is 10 and a comma 44
pub bytes-hold : (newline ≡ 10) × (comma ≡ 44)
bytes-hold = (refl, refl)
