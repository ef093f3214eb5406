-- Counts read from text: 'one line `covered,open,errors` for each bench'. A text with a newline at the end of each line; 11 at a line that has none, 8 at one that
-- is not three numbers as plans have them, up to 64 bits, with commas between them.
-- Assumes nothing.
use Rattle.std.specs.Prelude.{ℕ, suc, List, [], ◌∷◌, ◌++◌}
use Rattle.std.proofs.Math.Option.{Option, none, some, map, bind}
use Rattle.listing.specs.Limits.{largest64}
use Rattle.words.specs.Told.{Told, accepted, refused, at_line, then, need}
use Rattle.text_keys.specs.Parts.{newline}
use Rattle.text_entries.specs.Entries.{pieces, entries_in}

-- three numbers
pub record Three : Type 0 where
  pub first : ℕ
  pub second : ℕ
  pub third : ℕ

-- numbers that are three
abbrev pub are_three : List ℕ → Option Three
are_three [] = none
are_three (a ∷ []) = none
are_three (a ∷ b ∷ []) = none
are_three (a ∷ b ∷ c ∷ []) = some (record { first = a; second = b; third = c })
are_three (a ∷ b ∷ c ∷ d ∷ ns) = none

-- numbers, and those that a text is after them, that are three
unfoldable pub three_after : List ℕ → List ℕ → Option Three
three_after front t = bind (map (λ ns. front ++ ns) (entries_in largest64 t)) are_three

-- the three numbers that a line is
abbrev pub three_in : List ℕ → Option Three
three_in t = three_after [] t

-- three numbers in front of others
abbrev pub before : Three → Told (List ℕ) → Told (List ℕ)
before x told = then told (λ ns. accepted (x.first ∷ x.second ∷ x.third ∷ ns))

-- after the last newline nothing comes: 11 at the line that a byte begins
abbrev pub no_more : ℕ → List ℕ → Told (List ℕ)
no_more line [] = accepted []
no_more line (b ∷ t) = refused 11 (at_line line)

-- the numbers of the lines that are parted by newlines, the first of them numbered `line`
unfoldable pub lines_in : ℕ → List (List ℕ) → Told (List ℕ)
lines_in line [] = accepted []
lines_in line (p ∷ []) = no_more line p
lines_in line (p ∷ q ∷ ps) = then (need 8 (at_line line) (three_in p)) (λ x. before x (lines_in (suc line) (q ∷ ps)))

-- the counts that a text is, from the line with this number on
abbrev pub counts_from : ℕ → List ℕ → Told (List ℕ)
counts_from line t = lines_in line (pieces newline t)

abbrev pub counts_in : List ℕ → Told (List ℕ)
counts_in t = counts_from 1 t
