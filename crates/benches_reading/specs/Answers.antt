-- What the answers say.
-- Assumes nothing.
use Rattle.std.specs.Prelude.{ℕ, ◌*◌}
use Rattle.std.proofs.Math.Option.{Option, none, some}
use Rattle.words.specs.Told.{Told, accepted, refused, at_line}
use Rattle.benches_laws.specs.Calls.{per_bench}
use Rattle.benches_text.specs.Reading.{Three}
use Rattle.benches_reading.specs.declared.Lines.{Lines}
use Rattle.benches_reading.specs.declared.Lines.TheVariants.{All, Unended, Bad as Lines-Bad}
use Rattle.std.specs.declared.option.Option.{Option as Maybe}
use Rattle.std.specs.declared.option.Option.TheVariants.{Some, None}

-- the three numbers of a line
abbrev pub triple_is : Maybe (ℕ × ℕ × ℕ) → Option Three
triple_is (Some (a, b, c)) = some (record { first = a; second = b; third = c })
triple_is None = none

-- how many numbers were read: 11 at a line without a newline, 8 at one that is not three numbers
abbrev pub lines_told : Lines → Told ℕ
lines_told (All m) = accepted (per_bench * m)
lines_told (Unended l) = refused 11 (at_line l)
lines_told (Lines-Bad l) = refused 8 (at_line l)
