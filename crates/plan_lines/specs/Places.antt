-- What the readers of single lines answer: places in the text, as the texts that they cut off. A place past the end is not answered.
-- Assumes nothing.
use Rattle.std.specs.Prelude.{ℕ, ◌+◌, ◌-◌, ◌≤◌, ◌<◌, List, length, take, drop}
use Rattle.words.specs.Told.{Told, accepted}
use Rattle.words.specs.Meaning.{number_of, refusal_of}
use Rattle.text_keys.specs.Parts.{Parts}
use Rattle.words.specs.declared.Signed.{Signed}
use Rattle.plan_lines.specs.Field.{Field, Got}
use Rattle.plan_lines.specs.declared.Values.{Values}
use Rattle.std.specs.declared.result.Result.{Result}
use Rattle.std.specs.declared.result.Result.TheVariants.{Ok, Err}
use Rattle.words.specs.declared.Refusal.{Refusal}

-- the kind of line that a key and values say
abbrev pub field_of : ℕ → List ℕ → Values → Field
field_of largest key v = record { key = key; sign = v.sign; largest = largest; low = v.low; below = v.below; refusal = number_of v.reason }

-- the bytes of t from place a up to place b
abbrev pub part : ℕ → ℕ → List ℕ → List ℕ
part a b t = take (b - a) (drop a t)

-- a line's value, and the text after its newline
abbrev pub bounds_told : List ℕ → Result (ℕ × ℕ) Refusal → Told Parts
bounds_told t (Ok (from, to)) = accepted (record { front = part from to t; rest = drop (to + 1) t })
bounds_told t (Err f) = refusal_of f

abbrev pub BoundsWithin : List ℕ → Result (ℕ × ℕ) Refusal → Type 0
BoundsWithin t (Ok (from, to)) = (from ≤ to) × (to < length t)
BoundsWithin t (Err f) = Unit {0}

-- a number, and the text from the place after the line on
abbrev pub line_told : List ℕ → Result (Signed × ℕ) Refusal → Told (Got Signed)
line_told t (Ok (s, next)) = accepted (record { value = s; rest = drop next t })
line_told t (Err f) = refusal_of f

abbrev pub LineWithin : List ℕ → Result (Signed × ℕ) Refusal → Type 0
LineWithin t (Ok (s, next)) = next ≤ length t
LineWithin t (Err f) = Unit {0}
