-- What the answers tell, in the request's numbers.
-- Assumes nothing.
use Rattle.std.specs.Prelude.{ℕ}
use Rattle.std.proofs.Math.Option.{Option, none, some}
use Rattle.words.specs.Told.{Spot, nowhere, at_bench, Told, accepted, refused}
use Rattle.promise.specs.Plan.{Leg}
use Rattle.plan_rules.specs.Rules.{leg_is}
use Rattle.benches_laws.specs.Calls as calls
use Rattle.benches_calls.specs.declared.Fault.{Fault}
use Rattle.benches_calls.specs.declared.Fault.TheVariants.{Ports, Benches, Bench, Counts as Fault-Counts}
use Rattle.benches_calls.specs.declared.Counts.{Counts}
use Rattle.words.specs.declared.Leg as code
use Rattle.std.specs.declared.option.Option.{Option as Maybe}
use Rattle.std.specs.declared.option.Option.TheVariants.{Some, None}
use Rattle.std.specs.declared.result.Result.{Result}
use Rattle.std.specs.declared.result.Result.TheVariants.{Ok, Err}

-- the number of a refusal, and its place: of 27 the bench
abbrev pub fault_number : Fault → ℕ
fault_number Ports = 1
fault_number Benches = 21
fault_number Bench = 22
fault_number (Fault-Counts b) = 27

abbrev pub fault_spot : Fault → Spot
fault_spot Ports = nowhere
fault_spot Benches = nowhere
fault_spot Bench = nowhere
fault_spot (Fault-Counts b) = at_bench b

-- what it tells
abbrev pub fault_told : {A : Type 0} → Fault → Told A
fault_told f = refused (fault_number f) (fault_spot f)

-- a share: the plan's one leg, or none
abbrev pub share_told : Result (Maybe code.Leg) Fault → Told (Option Leg)
share_told (Ok (Some l)) = accepted (some (leg_is l))
share_told (Ok None) = accepted none
share_told (Err f) = fault_told f

-- a sum
abbrev pub counts_are : Counts → calls.Counts
counts_are c = record { covered = c.covered; opened = c.opened; errors = c.errors }

abbrev pub sum_told : Result Counts Fault → Told calls.Counts
sum_told (Ok c) = accepted (counts_are c)
sum_told (Err f) = fault_told f
