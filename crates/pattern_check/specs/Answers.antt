-- What the code finds of a pattern, as the definition of a fault has it.
-- Assumes nothing.
use Rattle.pattern_check.specs.Faults.{sound, outside, repeated, own_jack}
use Rattle.pattern_check.specs.Faults as faults
use Rattle.pattern_check.specs.declared.answers.Fault.{Fault}
use Rattle.pattern_check.specs.declared.answers.Fault.TheVariants.{Outside, Repeated, OwnJack}
use Rattle.std.specs.declared.result.Result.{Result}
use Rattle.std.specs.declared.result.Result.TheVariants.{Ok, Err}

-- a fault that is found
abbrev pub found_is : Fault → faults.Fault
found_is (Outside j) = outside j.0
found_is (Repeated j k) = repeated j.0 k.0
found_is (OwnJack j) = own_jack j.0

-- the first fault, or none
abbrev pub fault_is : Result (Unit {0}) Fault → faults.Fault
fault_is (Ok u) = sound
fault_is (Err f) = found_is f
