-- An answer that may be none, as the laws have it.
-- Assumes nothing.
use Rattle.std.proofs.Math.Option.{Option, none, some}
use Rattle.std.specs.declared.option.Option.{Option as Maybe}
use Rattle.std.specs.declared.option.Option.TheVariants.{Some, None}

-- the value that an answer has, or none
abbrev pub option_is : {A : Type 0} → Maybe A → Option A
option_is (Some a) = some a
option_is None = none
