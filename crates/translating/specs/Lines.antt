-- One line of a text that is translated. `ports=n` holds for the lines that follow; `rank=r`, `number=k` and `pattern=p1,p2,..` each name a pattern of so many
-- ports, and the line of its names is printed. What is checked, in this order: that the line is not too long (8), its key (7), its number or its entries (8),
-- and then the value: 1 for ports, 6 for a rank or a number, and for a pattern 8 by the count of its entries and then 3, 4 or 5 at the jack.
-- Assumes nothing.
use Rattle.std.specs.Prelude.{ℕ, ◌≤◌, cond, ◌≢◌, List, [], ◌∷◌, map, eqb, ltb, length, drop}
use Rattle.listing.specs.Limits.{most_ports, largest64}
use Rattle.words.specs.Told.{Told, accepted, refused, nowhere, then, need}
use Rattle.text_numbers.specs.Decimal.{number_up_to}
use Rattle.text_keys.specs.Parts.{begins}
use Rattle.text_entries.specs.Entries.{entries_in, entry_byte}
use Rattle.pattern_check.specs.Calls.{sized}
use Rattle.translating.specs.Names.{Named, by_rank, by_number, by_pattern, rank_key, number_key, pattern_key, names_text}

-- `ports=`
abbrev pub ports_key : List ℕ
ports_key = 112 ∷ 111 ∷ 114 ∷ 116 ∷ 115 ∷ 61 ∷ []

-- LINE_BYTES: no good line is longer, its newline not counted. `pattern=` and 20 entries are as long
abbrev pub most_line : ℕ
most_line = 58

-- the number that the rest of a line is: 8 if it is none
abbrev pub numbered : {A : Type 0} → List ℕ → (ℕ → Told A) → Told A
numbered t on = then (need 8 nowhere (number_up_to largest64 t)) on

-- the names that a line asks for, of a pattern of n ports: its key decides by what the pattern is found, and any other key is 7
unfoldable pub named_of : ℕ → List ℕ → Told Named
named_of n t =
    cond (begins rank_key t) (numbered (drop (length rank_key) t) (by_rank n))
    (cond (begins number_key t) (numbered (drop (length number_key) t) (by_number n))
    (cond (begins pattern_key t)
    (then (need 8 nowhere (entries_in largest64 (drop (length pattern_key) t))) (λ ns. by_pattern n (map entry_byte ns)))
    (refused 7 nowhere)))

-- what a line leaves and prints: the ports so far, 0 where no line has said them yet, and its text
pub record Went : Type 0 where
  pub ports : ℕ
  pub text : List ℕ

-- ports so far: none, or those of a line that was good
abbrev pub SoFar : ℕ → Type 0
SoFar n = (n ≤ most_ports) × (n ≢ 1)

-- the ports that the rest of a line says: 8, then 1
unfoldable pub ports_of : List ℕ → Told Went
ports_of t = numbered t (λ m. sized most_ports m (accepted (record { ports = m; text = [] })))

-- a line by its key: before any ports are known, every key but `ports=` is 7
unfoldable pub keyed_of : ℕ → List ℕ → Told Went
keyed_of n t =
    cond (begins ports_key t) (ports_of (drop (length ports_key) t))
    (cond (eqb n 0) (refused 7 nowhere) (then (named_of n t) (λ x. accepted (record { ports = n; text = names_text x }))))

-- a line without its newline, with the ports so far: one that is longer than any good one is 8
unfoldable pub line_of : ℕ → List ℕ → Told Went
line_of n t = cond (ltb most_line (length t)) (refused 8 nowhere) (keyed_of n t)
