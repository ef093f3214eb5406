-- What an answer says: a place, or none.
-- Assumes nothing.
use Rattle.std.specs.Prelude.{ℕ}
use Rattle.std.proofs.Math.Option.{Option}
use Rattle.std.specs.declared.option.Option.{Option as Maybe}
use Rattle.words.specs.Maybe.{option_is}

abbrev pub found_is : Maybe ℕ → Option ℕ
found_is r = option_is r
