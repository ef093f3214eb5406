-- One line of key=value (the paper, 'Plans'): its text, and how it is read, in the paper's order: 'newline present (11), key with its = (7), number (8),
-- value'. Which values are good, the refusal of any other, the largest number of the device and the line's number are parameters.
-- Assumes nothing.
use Rattle.std.specs.Prelude.{ℕ, Bool, true, false, cond, ◌&&◌, List, [], ◌∷◌, ◌++◌, leb, ltb}
use Rattle.std.proofs.Math.Option.{Option}
use Rattle.words.specs.Told.{Told, accepted, refused, at_line, then, need}
use Rattle.text_keys.specs.Parts.{newline, Parts, cut, after_key}
use Rattle.text_numbers.specs.Decimal.{number_up_to}
use Rattle.words.specs.declared.Signed.{Signed}
use Rattle.text_numbers.specs.Signed.{plain, signed_up_to}

-- a line: its key, its value, and one newline byte
abbrev pub field_text : List ℕ → List ℕ → List ℕ
field_text key value = (key ++ value) ++ (newline ∷ [])

-- what has to pass a test; if it does not, refusal k at the line
abbrev pub passed : {A : Type 0} → ℕ → ℕ → Bool → A → Told A
passed k line test a = cond test (accepted a) (refused k (at_line line))

-- a line at the front of a text: the text of its value, and the text after it. 'newline present (11), key with its = (7)'
unfoldable pub line_in : List ℕ → ℕ → List ℕ → Told Parts
line_in key line t =
    then (need 11 (at_line line) (cut newline t)) (λ p. then (need 7 (at_line line) (after_key key p.front)) (λ v. accepted (record { front = v; rest = p.rest })))

-- whether a number is one from low on and below `below`
unfoldable pub between : ℕ → ℕ → ℕ → Bool
between low below n = leb low n && ltb n below

-- the number that a text is: with `-` before it only where a sign may stand
abbrev pub value_in : Bool → ℕ → List ℕ → Option Signed
value_in sign largest t = cond sign (signed_up_to largest t) (plain (number_up_to largest t))

-- a kind of line: its key, whether a sign may stand, the largest number of the device, which magnitudes are good, and the refusal of any other
pub record Field : Type 0 where
  pub key : List ℕ
  pub sign : Bool
  pub largest : ℕ
  pub low : ℕ
  pub below : ℕ
  pub refusal : ℕ

-- what was read, and the text after it
pub record Got (A : Type 0) : Type 0 where
  pub value : A
  pub rest : List ℕ

-- a line of a kind at the front of a text: 11, 7, then 'number (8), value'
unfoldable pub field_in : Field → ℕ → List ℕ → Told (Got Signed)
field_in f line t =
    then (line_in f.key line t)
    (λ p. then (need 8 (at_line line) (value_in f.sign f.largest p.front))
    (λ s. passed f.refusal line (between f.low f.below s.magnitude) (record { value = s; rest = p.rest })))

-- a line with a number, and a line with a signed number
abbrev pub unsigned : ℕ → List ℕ → ℕ → ℕ → ℕ → Field
unsigned largest key low below k = record { key = key; sign = false; largest = largest; low = low; below = below; refusal = k }

abbrev pub signed : ℕ → List ℕ → ℕ → ℕ → ℕ → Field
signed largest key low below k = record { key = key; sign = true; largest = largest; low = low; below = below; refusal = k }
