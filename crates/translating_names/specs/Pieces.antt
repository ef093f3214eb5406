-- What the inner pieces answer: entries after others, each with a comma before it; and the names of a pattern that is checked first.
-- Assumes nothing.
use Rattle.std.specs.Prelude.{ℕ, List, [], map, length, drop}
use Rattle.listing.specs.Limits.{most_ports}
use Rattle.words.specs.Told.{Told, accepted, refused, then}
use Rattle.text_numbers.specs.Decimal.{digits_of}
use Rattle.text_keys.specs.Parts.{comma}
use Rattle.text_entries.specs.Entries.{following}
use Rattle.pattern_check.specs.Calls.{check_of}
use Rattle.translating.specs.Names.{Named, names, names_text}

-- the text of the entries after the first k
abbrev pub rest_text : List ℕ → ℕ → List ℕ
rest_text p k = following comma (map digits_of (drop k p))

-- the names of a pattern: the refusals of the check
unfoldable pub names_of : List ℕ → Told Named
names_of p = then (check_of most_ports p) (λ ok. accepted (names (length p) p))

-- how long their line is, and the line itself; none on a refusal
abbrev pub names_length : Told Named → Told ℕ
names_length told = then told (λ x. accepted (length (names_text x)))

abbrev pub names_line : Told Named → List ℕ
names_line (accepted x) = names_text x
names_line (refused k s) = []
