-- What the reader's answer tells: the paper's number of the refusal, or the line and the place after it. At the end, what its inner pieces answer.
-- Assumes nothing.
use Rattle.std.specs.Prelude.{ℕ, zero, suc, ◌≤◌, ◌≡◌, List, length, drop}
use Rattle.std.proofs.Math.Option.{Option, none, some}
use Rattle.words.specs.Told.{Told, accepted, refused, nowhere}
use Rattle.words.specs.Meaning.{answer_told, number_of}
use Rattle.words.specs.declared.Line.{Line}
use Rattle.line_format.specs.Format.{Kind, swapping, turning, seating, marking, ending, commas, Numbers, line_of}
use Rattle.line_format.specs.Reading.{number_before, numbers_told, line_in}
use Rattle.words.specs.declared.Reason.{Reason}
use Rattle.line_reader.specs.declared.order_lines.Numbers.{Numbers as Three}
use Rattle.line_reader.specs.declared.order_lines.Kind.{Kind as Kind-Read}
use Rattle.line_reader.specs.declared.order_lines.Kind.TheVariants.{Swap, Turn, Seat, Mark, End}
use Rattle.std.specs.declared.option.Option.{Option as Maybe}
use Rattle.std.specs.declared.result.Result.{Result}
use Rattle.std.specs.declared.option.Option.TheVariants.{Some, None}
use Rattle.std.specs.declared.result.Result.TheVariants.{Ok, Err}
use Rattle.words.specs.declared.Refusal.{Refusal}

-- the call
abbrev pub read_told : Result (Line × ℕ) Refusal → Told (Line × ℕ)
read_told r = answer_told (λ q. (q.0, q.1)) r

-- ---- inner pieces

-- a line without its newline, or why it is none
abbrev pub judged_told : Result Line Reason → Told Line
judged_told (Ok l) = accepted l
judged_told (Err r) = refused (number_of r) nowhere

-- the first number of a text t, and the text from the place on that is answered
abbrev pub first_is : List ℕ → Maybe (ℕ × ℕ) → Option (ℕ × List ℕ)
first_is t (Some (n, at)) = some (n, drop at t)
first_is t None = none

-- that place, and 0 where there is none
abbrev pub place_of : Maybe (ℕ × ℕ) → ℕ
place_of (Some (n, at)) = at
place_of None = 0

-- r is the first number of t, and its place is not past the end
pub record FirstOf (most : ℕ) (t : List ℕ) (r : Maybe (ℕ × ℕ)) : Type 0 where
  pub is : first_is t r ≡ number_before most t
  pub within : place_of r ≤ length t

-- ---- numbers

-- of three numbers the first ones, with k commas between them
abbrev pub firsts : (k : ℕ) → ℕ → ℕ → ℕ → Numbers k
firsts zero a b c = a
firsts (suc k) a b c = (a, firsts k b c 0)

abbrev pub listed_is : (k : ℕ) → Maybe Three → Option (Numbers k)
listed_is k (Some x) = some (firsts k x.first x.second x.third)
listed_is k None = none

-- one number alone, and a number before others
abbrev pub alone_of : Maybe ℕ → Maybe Three
alone_of (Some n) = Some (record { first = n; second = 0; third = 0 })
alone_of None = None

abbrev pub preceded_by : ℕ → Maybe Three → Maybe Three
preceded_by n (Some x) = Some (record { first = n; second = x.first; third = x.second })
preceded_by n None = None

-- ---- kinds

-- a kind of the format
abbrev pub kind_is : Kind-Read → Kind
kind_is Swap = swapping
kind_is Turn = turning
kind_is Seat = seating
kind_is Mark = marking
kind_is End = ending

-- the line of a kind that has these numbers
abbrev pub made_of : Kind-Read → Three → Line
made_of k x = line_of (kind_is k) (firsts (commas (kind_is k)) x.first x.second x.third)

-- what the text after the key tells
abbrev pub keyed_told : ℕ → ℕ → List ℕ → Maybe (Kind-Read × ℕ) → Told Line
keyed_told most jacks t (Some (k, at)) = numbers_told most jacks (kind_is k) (drop at t)
keyed_told most jacks t None = refused 7 nowhere

-- the place after the key, and 0 where there is none
abbrev pub key_end : Maybe (Kind-Read × ℕ) → ℕ
key_end (Some (k, at)) = at
key_end None = 0

-- r is the kind of t: the text after its key decides, and its place is not past the end
pub record KeyedOf (most jacks : ℕ) (t : List ℕ) (r : Maybe (Kind-Read × ℕ)) : Type 0 where
  pub is : keyed_told most jacks t r ≡ line_in most jacks t
  pub within : key_end r ≤ length t
