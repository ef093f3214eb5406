-- Texts, good and bad, beside what is told where a line is looked for in them: one table, and one theorem.
-- Assumes nothing.
use mathlib.Core.Path.{◌≡◌, refl}
use mathlib.Core.List.{List, [], ◌∷◌, ◌++◌, map}
use mathlib.Core.Option.{bind}
use Prim.Native.Nat.{ℕ}
use Rattle.listing.specs.Limits.{most_ports, largest64}
use Rattle.words.specs.Told.{Told, accepted, refused, nowhere}
use Rattle.words.specs.Shape.{one_of, rising, shaped}
use Rattle.words.specs.declared.Order.TheVariants.{Swap, Turn}
use Rattle.words.specs.declared.Line.{Line}
use Rattle.words.specs.declared.Line.TheVariants.{Movement, Seat, Mark, End}
use Rattle.text_numbers.specs.Decimal.{digit_in, onward, number_in, up_to}
use Rattle.text_numbers.proofs.Cases.{all_but_one}
use Rattle.text_keys.specs.Parts.{newline, comma, first_of, begins}
use Rattle.words.specs.Meaning.{jack_at}
use Rattle.line_format.specs.Format.{swapping, turning, seating, marking, ending, key}
use Rattle.line_format.specs.Reading.{number_before, numbers_in, fitting, numbers_told, line_in, read_of}

-- `18446744073709551615`
abbrev pub largest : List ℕ
largest = all_but_one ++ (53 ∷ [])

-- a text and a place in it, beside what is told
pub record Case : Type 0 where
  pub text : List ℕ
  pub place : ℕ
  pub told : Told (Line × ℕ)

abbrev pub swap : ℕ → ℕ → Line
swap a b = Movement (Swap (jack_at a) (jack_at b))

abbrev pub turn : ℕ → ℕ → ℕ → Line
turn a b c = Movement (Turn (jack_at a) (jack_at b) (jack_at c))

abbrev pub cases : List Case
cases =
    -- no byte
    record { text = []; place = 0; told = refused 11 nowhere }
    -- `swap=1,2` without a newline
    ∷ record { text = key swapping ++ (49 ∷ comma ∷ 50 ∷ []); place = 0; told = refused 11 nowhere }
    -- `end=5` and a newline, from behind it
    ∷ record { text = key ending ++ (53 ∷ newline ∷ []); place = 6; told = refused 11 nowhere }
    -- from a place past the end
    ∷ record { text = key ending ++ (53 ∷ newline ∷ []); place = 7; told = refused 11 nowhere }
    -- `swap=1,2` with a carriage return
    ∷ record { text = key swapping ++ (49 ∷ comma ∷ 50 ∷ 13 ∷ newline ∷ []); place = 0; told = refused 8 nowhere }
    -- a lone newline
    ∷ record { text = newline ∷ []; place = 0; told = refused 7 nowhere }
    -- `swap`
    ∷ record { text = 115 ∷ 119 ∷ 97 ∷ 112 ∷ newline ∷ []; place = 0; told = refused 7 nowhere }
    -- `swap =1,2`
    ∷ record { text = 115 ∷ 119 ∷ 97 ∷ 112 ∷ 32 ∷ 61 ∷ 49 ∷ comma ∷ 50 ∷ newline ∷ []; place = 0; told = refused 7 nowhere }
    -- `Swap=1,2`
    ∷ record { text = 83 ∷ 119 ∷ 97 ∷ 112 ∷ 61 ∷ 49 ∷ comma ∷ 50 ∷ newline ∷ []; place = 0; told = refused 7 nowhere }
    -- `seat 1`
    ∷ record { text = 115 ∷ 101 ∷ 97 ∷ 116 ∷ 32 ∷ 49 ∷ newline ∷ []; place = 0; told = refused 7 nowhere }
    -- NUL in a key
    ∷ record { text = 115 ∷ 119 ∷ 0 ∷ 112 ∷ 61 ∷ 49 ∷ comma ∷ 50 ∷ newline ∷ []; place = 0; told = refused 7 nowhere }
    -- byte 200 in a key
    ∷ record { text = 115 ∷ 119 ∷ 200 ∷ 112 ∷ 61 ∷ 49 ∷ comma ∷ 50 ∷ newline ∷ []; place = 0; told = refused 7 nowhere }
    -- `swap=`
    ∷ record { text = key swapping ++ (newline ∷ []); place = 0; told = refused 8 nowhere }
    -- `seat=`
    ∷ record { text = key seating ++ (newline ∷ []); place = 0; told = refused 8 nowhere }
    -- `end=1,`
    ∷ record { text = key ending ++ (49 ∷ comma ∷ newline ∷ []); place = 0; told = refused 8 nowhere }
    -- `swap=1,2,3`
    ∷ record { text = key swapping ++ (49 ∷ comma ∷ 50 ∷ comma ∷ 51 ∷ newline ∷ []); place = 0; told = refused 8 nowhere }
    -- `seat=1,2`
    ∷ record { text = key seating ++ (49 ∷ comma ∷ 50 ∷ newline ∷ []); place = 0; told = refused 8 nowhere }
    -- `swap=0`, where the count is wrong and the jack too
    ∷ record { text = key swapping ++ (48 ∷ newline ∷ []); place = 0; told = refused 8 nowhere }
    -- `swap=01,2`
    ∷ record { text = key swapping ++ (48 ∷ 49 ∷ comma ∷ 50 ∷ newline ∷ []); place = 0; told = refused 8 nowhere }
    -- `mark=-1,0`
    ∷ record { text = key marking ++ (45 ∷ 49 ∷ comma ∷ 48 ∷ newline ∷ []); place = 0; told = refused 8 nowhere }
    -- NUL in a number
    ∷ record { text = key ending ++ (53 ∷ 0 ∷ newline ∷ []); place = 0; told = refused 8 nowhere }
    -- byte 200 in a number
    ∷ record { text = key ending ++ (200 ∷ newline ∷ []); place = 0; told = refused 8 nowhere }
    -- `mark=18446744073709551616,0`
    ∷ record { text = key marking ++ (all_but_one ++ (54 ∷ comma ∷ 48 ∷ newline ∷ [])); place = 0; told = refused 8 nowhere }
    -- `swap=1,18446744073709551616`
    ∷ record { text = key swapping ++ (49 ∷ comma ∷ (all_but_one ++ (54 ∷ newline ∷ []))); place = 0; told = refused 8 nowhere }
    -- `seat=18446744073709551616`
    ∷ record { text = key seating ++ (all_but_one ++ (54 ∷ newline ∷ [])); place = 0; told = refused 8 nowhere }
    -- `swap=1,300`
    ∷ record { text = key swapping ++ (49 ∷ comma ∷ 51 ∷ 48 ∷ 48 ∷ newline ∷ []); place = 0; told = refused 17 nowhere }
    -- `swap=0,1`
    ∷ record { text = key swapping ++ (48 ∷ comma ∷ 49 ∷ newline ∷ []); place = 0; told = refused 17 nowhere }
    -- `swap=2,1`
    ∷ record { text = key swapping ++ (50 ∷ comma ∷ 49 ∷ newline ∷ []); place = 0; told = refused 17 nowhere }
    -- `swap=1,1`
    ∷ record { text = key swapping ++ (49 ∷ comma ∷ 49 ∷ newline ∷ []); place = 0; told = refused 17 nowhere }
    -- `swap=1,21`
    ∷ record { text = key swapping ++ (49 ∷ comma ∷ 50 ∷ 49 ∷ newline ∷ []); place = 0; told = refused 17 nowhere }
    -- `turn=2,1,3`
    ∷ record { text = key turning ++ (50 ∷ comma ∷ 49 ∷ comma ∷ 51 ∷ newline ∷ []); place = 0; told = refused 17 nowhere }
    -- `turn=1,2,2`
    ∷ record { text = key turning ++ (49 ∷ comma ∷ 50 ∷ comma ∷ 50 ∷ newline ∷ []); place = 0; told = refused 17 nowhere }
    -- `seat=0`
    ∷ record { text = key seating ++ (48 ∷ newline ∷ []); place = 0; told = refused 17 nowhere }
    -- `seat=21`
    ∷ record { text = key seating ++ (50 ∷ 49 ∷ newline ∷ []); place = 0; told = refused 17 nowhere }
    -- `seat=18446744073709551615`
    ∷ record { text = key seating ++ largest ++ (newline ∷ []); place = 0; told = refused 17 nowhere }
    -- `swap=19,20`
    ∷ record { text = key swapping ++ (49 ∷ 57 ∷ comma ∷ 50 ∷ 48 ∷ newline ∷ []); place = 0; told = accepted (swap 19 20, 11) }
    -- `turn=1,3,2`
    ∷ record { text = key turning ++ (49 ∷ comma ∷ 51 ∷ comma ∷ 50 ∷ newline ∷ []); place = 0; told = accepted (turn 1 3 2, 11) }
    -- `seat=7`
    ∷ record { text = 115 ∷ 101 ∷ 97 ∷ 116 ∷ 61 ∷ 55 ∷ newline ∷ []; place = 0; told = accepted (Seat (jack_at 7), 7) }
    -- `seat=20`
    ∷ record { text = key seating ++ (50 ∷ 48 ∷ newline ∷ []); place = 0; told = accepted (Seat (jack_at 20), 8) }
    -- `end=5`
    ∷ record { text = key ending ++ (53 ∷ newline ∷ []); place = 0; told = accepted (End 5, 6) }
    -- `mark=18446744073709551615,18446744073709551615`
    ∷ record { text = key marking ++ largest ++ (comma ∷ []) ++ largest ++ (newline ∷ []); place = 0; told = accepted (Mark largest64 largest64, 47) }
    -- `mark=0,0` and then `end=5`, from the second of them
    ∷ record { text = key marking ++ (48 ∷ comma ∷ 48 ∷ newline ∷ []) ++ key ending ++ (53 ∷ newline ∷ []); place = 9; told = accepted (End 5, 15) }
    -- `end=5` and bytes after its newline that are no line
    ∷ record { text = key ending ++ (53 ∷ newline ∷ 61 ∷ newline ∷ []); place = 0; told = accepted (End 5, 6) }
    ∷ []

-- each of these tells what stands beside it
pub cases-hold : map (λ c. read_of largest64 most_ports c.text c.place) cases ≡ map (λ c. c.told) cases
unfolding read_of line_in numbers_told fitting numbers_in number_before bind first_of begins digit_in onward number_in up_to shaped rising one_of
cases-hold = refl
