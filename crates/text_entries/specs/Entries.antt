-- A pattern as one text: its entries in order of the jacks, with commas between them. The text of entries; what a text is read as, and its refusals in their
-- order: 8 where an entry is no number as plans have them, then 1 where there are more entries than the most ports. Which entry is the first that is no
-- number. In front, one line and nothing after it.
-- Assumes nothing.
use Rattle.std.specs.Prelude.{ℕ, suc, cond, List, [], ◌∷◌, ◌++◌, map, eqb, leb, length}
use Rattle.std.proofs.Math.Option
use Rattle.std.proofs.Math.Option.{Option, none, some, bind}
use Rattle.listing.specs.Limits.{most_ports, largest64}
use Rattle.words.specs.Told.{Told, accepted, refused, nowhere, then, need}
use Rattle.text_numbers.specs.Decimal.{digits_of, number_up_to}
use Rattle.text_keys.specs.Parts.{newline, comma, Parts, cut}

-- ---- one line

-- one line and nothing after it: 11 where there is no newline, or a byte after the first
abbrev pub alone : Parts → Told (List ℕ)
alone p = cond (leb (length p.rest) 0) (accepted p.front) (refused 11 nowhere)

unfoldable pub one_line : List ℕ → Told (List ℕ)
one_line t = then (need 11 nowhere (cut newline t)) alone

-- ---- a text and the texts between its separators

-- a byte in front of the first of some texts
abbrev pub on_first : ℕ → List (List ℕ) → List (List ℕ)
on_first b [] = (b ∷ []) ∷ []
on_first b (p ∷ ps) = (b ∷ p) ∷ ps

-- the texts between the bytes s of a text, which part it: one more than it has such bytes
unfoldable pub pieces : ℕ → List ℕ → List (List ℕ)
pieces s [] = [] ∷ []
pieces s (b ∷ t) = cond (eqb b s) ([] ∷ pieces s t) (on_first b (pieces s t))

-- texts that come after another, with a byte s before each
unfoldable pub following : ℕ → List (List ℕ) → List ℕ
following s [] = []
following s (p ∷ ps) = s ∷ (p ++ following s ps)

-- texts put together again, with a byte s between them
unfoldable pub joined : ℕ → List (List ℕ) → List ℕ
joined s [] = []
joined s (p ∷ ps) = p ++ following s ps

-- ---- entries

-- the text of entries: each as plans have numbers, with commas between them
unfoldable pub entries_text : List ℕ → List ℕ
entries_text ns = joined comma (map digits_of ns)

-- the numbers that texts are, where each is one
unfoldable pub each_number : ℕ → List (List ℕ) → Option (List ℕ)
each_number most [] = some []
each_number most (p ∷ ps) = bind (number_up_to most p) (λ n. Option.map (λ ns. n ∷ ns) (each_number most ps))

-- the entries that a text is, each up to `most`: nothing between two commas is no number
unfoldable pub entries_in : ℕ → List ℕ → Option (List ℕ)
entries_in most t = each_number most (pieces comma t)

-- an entry as a byte: one above 255 is held as 0, which is no port either, so it is refused (3) as any other that is none of 1..n
abbrev pub entry_byte : ℕ → ℕ
entry_byte n = cond (leb n 255) n 0

-- entries as bytes: 1 where there are more than the most ports
unfoldable pub few_entries : List ℕ → Told (List ℕ)
few_entries ns = cond (leb (length ns) most_ports) (accepted (map entry_byte ns)) (refused 1 nowhere)

-- what a text is told to be: 8, then 1; else its entries as bytes
unfoldable pub entries_of : List ℕ → Told (List ℕ)
entries_of t = then (need 8 nowhere (entries_in largest64 t)) few_entries

-- ---- the first bad entry

-- after an entry that is a number or none: 1 where it is none, else one more than what is found later, 0 where nothing is
abbrev pub bad_after : Option ℕ → ℕ → ℕ
bad_after none later = 1
bad_after (some n) later = cond (eqb later 0) 0 (suc later)

-- which of some texts is the first that is no number, counted from 1; 0 where each is one
unfoldable pub first_bad : ℕ → List (List ℕ) → ℕ
first_bad most [] = 0
first_bad most (p ∷ ps) = bad_after (number_up_to most p) (first_bad most ps)

-- which entry of a text is the first that is no number; 0 where each is one
unfoldable pub bad_entry : ℕ → List ℕ → ℕ
bad_entry most t = first_bad most (pieces comma t)
