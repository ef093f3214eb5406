-- What a text tells where a line is looked for, in the paper's order of checks ('Order lines'): newline (11), key with its `=` (7), form and count of
-- numbers (8), jacks different and in shape (17). The largest number and the most jacks of the device are parameters.
-- Assumes nothing.
use Rattle.std.specs.Prelude.{ℕ, zero, suc, ◌+◌, cond, List, length, drop}
use Rattle.std.proofs.Math.Option.{Option, none, some, map, bind}
use Rattle.words.specs.Told.{Told, accepted, refused, nowhere, then, need}
use Rattle.words.specs.Shape.{line_fits, LineFits}
use Rattle.words.specs.declared.Line.{Line}
use Rattle.text_numbers.specs.Decimal.{number_up_to}
use Rattle.text_keys.specs.Parts.{newline, comma, cut, after_key}
use Rattle.line_format.specs.Format.{Kind, swapping, turning, seating, marking, ending, key, commas, Numbers, AllUpTo, kind_of, numbers_of, line_of}

-- ---- form and count of numbers

-- the number before the first comma, and the text after that comma
unfoldable pub number_before : ℕ → List ℕ → Option (ℕ × List ℕ)
number_before most t = bind (cut comma t) (λ p. map (λ n. (n, p.rest)) (number_up_to most p.front))

-- the numbers that a text is, with k commas between them
unfoldable pub numbers_in : ℕ → (k : ℕ) → List ℕ → Option (Numbers k)
numbers_in most zero t = number_up_to most t
numbers_in most (suc k) t = bind (number_before most t) (λ b. map (λ x. (b.0, x)) (numbers_in most k b.1))

-- ---- the checks, from the last to the first

-- a line that the device writes and reads: it fits the jacks, and its numbers are not too large
pub record Proper (most jacks : ℕ) (l : Line) : Type 0 where
  pub fits : LineFits jacks l
  pub numbers : AllUpTo most (commas (kind_of l)) (numbers_of l)

-- 'jacks 1 to 20, different and in shape (17)'
unfoldable pub fitting : ℕ → Line → Told Line
fitting jacks l = cond (line_fits jacks l) (accepted l) (refused 17 nowhere)

-- 'form and count of numbers (8)': what the text after the key of a kind tells
unfoldable pub numbers_told : ℕ → ℕ → Kind → List ℕ → Told Line
numbers_told most jacks k v = then (need 8 nowhere (numbers_in most (commas k) v)) (λ x. fitting jacks (line_of k x))

-- what a text tells that begins with the key of a kind, and what any other tells
abbrev pub keyed : ℕ → ℕ → Kind → Option (List ℕ) → Told Line → Told Line
keyed most jacks k none other = other
keyed most jacks k (some v) other = numbers_told most jacks k v

-- 'key with its `=` (7)': what a line without its newline tells
unfoldable pub line_in : ℕ → ℕ → List ℕ → Told Line
line_in most jacks t =
    keyed most jacks swapping (after_key (key swapping) t)
    (keyed most jacks turning (after_key (key turning) t)
    (keyed most jacks seating (after_key (key seating) t)
    (keyed most jacks marking (after_key (key marking) t)
    (keyed most jacks ending (after_key (key ending) t)
    (refused 7 nowhere)))))

-- 'newline (11, also at or past the end of the slice)': the line that begins at a place of a text, and the place after its newline
unfoldable pub read_of : ℕ → ℕ → List ℕ → ℕ → Told (Line × ℕ)
read_of most jacks t place =
    then (need 11 nowhere (cut newline (drop place t)))
    (λ p. then (line_in most jacks p.front) (λ l. accepted (l, place + length p.front + 1)))
