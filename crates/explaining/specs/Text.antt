-- Why a pattern has its rank, as text (request 5; docs/RANKS.md): for a pattern in one line a line for each level met down to 3, and then the rank; for a bad
-- one the refusal, and in words the jack and the rule at fault.
-- Assumes nothing.
use Rattle.std.specs.Prelude.{ℕ, Bool, true, false, cond, List, [], ◌∷◌, ◌++◌, eqb, length}
use Rattle.listing.specs.Pattern.{entry}
use Rattle.listing.specs.Steps.{Letter, by_a, by_b}
use Rattle.listing.specs.Rank.{rank}
use Rattle.listing.specs.Limits.{most_ports, largest64}
use Rattle.listing_levels.specs.Levels.{Level, levels}
use Rattle.words.specs.Told.{spot_number, earlier_number, Told, accepted, refused, then}
use Rattle.text_numbers.specs.Decimal.{digits_of}
use Rattle.text_keys.specs.Parts.{newline}
use Rattle.plan_lines.specs.Field.{field_text}
use Rattle.text_entries.specs.Entries.{one_line, entries_of, bad_entry}
use Rattle.pattern_check.specs.Calls.{check_of}
use Rattle.line_refusal.specs.Text.{refusal_text}
use Rattle.line_refusal.specs.Words.{quoted}

-- ---- a pattern

-- the step that the pattern came by
abbrev pub by_text : Letter → List ℕ
by_text by_a = quoted " by=A"
by_text by_b = quoted " by=B"

-- how the shorter list is read
abbrev pub read_text : Bool → List ℕ
read_text true = quoted " read=forward"
read_text false = quoted " read=backward"

-- the end of a line
abbrev pub ended : List ℕ
ended = newline ∷ []

-- the line of a level: `level=5 last=1 by=B read=backward over=9`
unfoldable pub level_text : Level → List ℕ
level_text l =
    (quoted "level=" ++ digits_of l.ports)
    ++ ((quoted " last=" ++ digits_of l.last) ++ (by_text l.by ++ (read_text l.forward ++ ((quoted " over=" ++ digits_of l.over) ++ ended))))

-- a line for each level
unfoldable pub levels_text : List Level → List ℕ
levels_text [] = []
levels_text (l ∷ ls) = level_text l ++ levels_text ls

-- the line of the rank: `rank=9`
unfoldable pub rank_text : ℕ → List ℕ
rank_text r = field_text (quoted "rank=") (digits_of r)

-- why a pattern has its rank: its levels on the way from rank 0, where its list is read forward, and then the rank
unfoldable pub why_text : List ℕ → List ℕ
why_text p = levels_text (levels true (length p) p) ++ rank_text (rank (length p) p)

-- ---- a refusal

-- a number between two texts
abbrev pub said : List ℕ → ℕ → List ℕ → List ℕ
said front n rest = front ++ (digits_of n ++ rest)

-- what is said at a jack, up to a number: `jack 3: port 2`
abbrev pub jack_text : ℕ → List ℕ → ℕ → List ℕ
jack_text j rest n = said (quoted "jack ") j rest ++ digits_of n

-- the jack and the rule at fault, in words, by the number k of the refusal; j is its place, i the earlier jack with the same port, and x what the words name
-- beside them: for 8 which entry it is, for 3 how many ports there are, for 4 the port
unfoldable pub wrong_text : ℕ → ℕ → ℕ → ℕ → List ℕ
wrong_text k j i x =
    cond (eqb k 11) (quoted "the newline is missing or not last")
    (cond (eqb k 8) (said (quoted "jack ") x (quoted ": not a plain decimal number of at most 64 bits"))
    (cond (eqb k 1) (quoted "a pattern has 2 to 20 entries")
    (cond (eqb k 3) (jack_text j (quoted ": its entry is none of the ports 1 to ") x)
    (cond (eqb k 4) (jack_text j (quoted ": port ") x ++ (quoted " is already at jack " ++ digits_of i))
    (jack_text j (quoted ": port ") j ++ quoted " has the jack's own number")))))

-- a refusal as text: its number, its place and the words, each on a line
unfoldable pub refused_text : ℕ → ℕ → ℕ → ℕ → List ℕ
refused_text k j i x = refusal_text k j ++ (wrong_text k j i x ++ ended)

-- ---- a whole text

-- the text of what was accepted, or of the refusal, with the number that its words name
abbrev pub told_text : {A : Type 0} → Told A → (ℕ → ℕ → ℕ) → (A → List ℕ) → List ℕ
told_text (accepted a) named on = on a
told_text (refused k s) named on = refused_text k (spot_number s) (earlier_number s) (named k (spot_number s))

-- the number that the words of refusal k of p at jack j name: for 4 the port, else how many ports there are
abbrev pub named_in : List ℕ → ℕ → ℕ → ℕ
named_in p k j = cond (eqb k 4) (entry p j) (length p)

-- entries as a pattern: 1, then 3, 4 or 5 at the first jack at fault
unfoldable pub pattern_text : List ℕ → List ℕ
pattern_text p = told_text (check_of most_ports p) (named_in p) (λ ok. why_text p)

-- a line of entries: 8, then 1 where there are too many
unfoldable pub line_text : List ℕ → List ℕ
line_text t = told_text (entries_of t) (λ k j. bad_entry largest64 t) pattern_text

-- what is printed of a text: 11 where it is not one line
unfoldable pub explained : List ℕ → List ℕ
explained t = told_text (one_line t) (λ k j. 0) line_text

-- whether it is accepted, or how it is refused
unfoldable pub explain_of : List ℕ → Told (Unit {0})
explain_of t = then (one_line t) (λ line. then (entries_of line) (check_of most_ports))

-- EXPLAINED_BYTES: no text is longer
abbrev pub most_explained : ℕ
most_explained = 1104
